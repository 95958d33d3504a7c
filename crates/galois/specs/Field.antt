-- A finite field of characteristic two: what it is made of, and the laws that it keeps.
use Rattle.std.specs.Prelude.{◌≡◌, ℕ, zero, suc, ◌<◌, ◌≢◌}

-- The operations of a field, and the numbers by which its elements are written.
pub record Arithmetic (F : Type 0) : Type 0 where
  pub zero : F
  pub one : F
  -- the element whose powers are the roots of the code and the places of a word
  pub alpha : F
  pub plus : F → F → F
  pub times : F → F → F
  -- how many powers of alpha differ, from the 0th on
  pub order : ℕ
  -- how many elements there are; each has a number below that
  pub size : ℕ
  pub number : F → ℕ

-- x to the power k
unfoldable pub power : {F : Type 0} → Arithmetic F → F → ℕ → F
power K x zero = K.one
power K x (suc k) = K.times x (power K x k)

-- Both operations are commutative and associative, multiplication distributes, each element is its own negative, each but zero
-- has an inverse, the powers of alpha below the order differ, and no two elements share a number.
pub record Laws {F : Type 0} (K : Arithmetic F) : Type 0 where
  pub plus_comm : (x y : F) → K.plus x y ≡ K.plus y x
  pub plus_assoc : (x y z : F) → K.plus (K.plus x y) z ≡ K.plus x (K.plus y z)
  pub zero_plus : (x : F) → K.plus K.zero x ≡ x
  pub plus_self : (x : F) → K.plus x x ≡ K.zero
  pub times_comm : (x y : F) → K.times x y ≡ K.times y x
  pub times_assoc : (x y z : F) → K.times (K.times x y) z ≡ K.times x (K.times y z)
  pub one_times : (x : F) → K.times K.one x ≡ x
  pub times_plus : (x y z : F) → K.times x (K.plus y z) ≡ K.plus (K.times x y) (K.times x z)
  pub invertible : (x : F) → (x ≢ K.zero) → (y : F) × (K.times x y ≡ K.one)
  pub powers_differ : (i j : ℕ) → i < K.order → j < K.order → power K K.alpha i ≡ power K K.alpha j → i ≡ j
  pub number_below : (x : F) → K.number x < K.size
  pub same_number : (x y : F) → K.number x ≡ K.number y → x ≡ y

-- y is what x has to be multiplied by to give one; zero, which has no such element, is given zero.
pub record Inverse {F : Type 0} (K : Arithmetic F) (x y : F) : Type 0 where
  pub of_zero : x ≡ K.zero → y ≡ K.zero
  pub of_other : (x ≢ K.zero) → K.times x y ≡ K.one
