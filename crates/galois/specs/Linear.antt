-- Shifts and the product are additive, for every degree and every polynomial.
use Rattle.std.specs.Prelude.{◌≡◌, ℕ, zero, suc, ◌+◌, ◌*◌, ◌/◌, ◌%◌, ◌^◌, ◌<◌, bit_xor}
use Rattle.std.proofs.Math.Path.{refl, sym, ap, ap₂}
use Rattle.std.proofs.Common.{◌∙◌, one-mul, mod-lt, mul-div_cancel, add-zero, zero-add, suc-add, pow-suc, div-lt_iff_lt-mul, arith, lit<}
use Rattle.std.proofs.Math.Nat.{zero-mul, zero-div, mul-mod_left}
use Rattle.std.proofs.lemmas.Nat.{xor_comm, xor_block, xor_shr, xor_mod}
use Rattle.std.specs.Int.Bits.{xor_assoc, xor_self, xor_zero_r}
use Rattle.galois.specs.Binary.{shift, product, shifts}

-- a bit times a number

pub two_pos : 0 < 2
two_pos = lit< tt

-- a rule of bits, from its two cases
pub by_bit : (B : ℕ → Type 0) → B 0 → B 1 → (b : ℕ) → b < 2 → B b
by_bit B p q zero h = p
by_bit B p q (suc zero) h = q
by_bit B p q (suc (suc b)) h = absurd (omega arith)

pub scale : (y a b : ℕ) → a < 2 → b < 2 → bit_xor a b * y ≡ bit_xor (a * y) (b * y)
scale y a b ha hb =
    by_bit (λ a. bit_xor a b * y ≡ bit_xor (a * y) (b * y)) (rw (zero-mul y) refl)
    (by_bit (λ b. bit_xor 1 b * y ≡ bit_xor (1 * y) (b * y)) (rw (zero-mul y) (sym (xor_zero_r (1 * y)))) (zero-mul y ∙ sym (xor_self (1 * y))) b hb)
    a ha

pub xor_double : (x y : ℕ) → bit_xor x y * 2 ≡ bit_xor (x * 2) (y * 2)
xor_double x y = sym (simp add-zero at (xor_block 1 x y 0 0 (lit< tt) (lit< tt)))

-- the sums of two pairs, the other way across
pub across : (a b c d : ℕ) → bit_xor (bit_xor a b) (bit_xor c d) ≡ bit_xor (bit_xor a c) (bit_xor b d)
across a b c d =
    xor_assoc a b (bit_xor c d)
    ∙ ap (bit_xor a) (sym (xor_assoc b c d) ∙ ap (λ (e : ℕ). bit_xor e d) (xor_comm b c) ∙ xor_assoc c b d)
    ∙ sym (xor_assoc a c (bit_xor b d))

pub halves : (x y : ℕ) → bit_xor x y / 2 ≡ bit_xor (x / 2) (y / 2)
halves x y = xor_shr x y 1

pub lows : (x y : ℕ) → bit_xor x y % 2 ≡ bit_xor (x % 2) (y % 2)
lows x y = xor_mod x y 1

pub bit : (x : ℕ) → x % 2 < 2
bit x = mod-lt x two_pos

module _ (n P : ℕ) where
  pub shift_zero : shift n P 0 ≡ 0
  unfolding shift
  shift_zero = ap (λ (q : ℕ). q % 2 * P) (zero-div (2 ^ n)) ∙ zero-mul P

  pub shift_xor : (x y : ℕ) → shift n P (bit_xor x y) ≡ bit_xor (shift n P x) (shift n P y)
  unfolding shift
  shift_xor x y =
      let top : bit_xor x y / 2 ^ n % 2 ≡ bit_xor (x / 2 ^ n % 2) (y / 2 ^ n % 2) =
      ap (λ (q : ℕ). q % 2) (xor_shr x y n) ∙ lows (x / 2 ^ n) (y / 2 ^ n) in
      ap₂ bit_xor (xor_double x y) (ap (λ (b : ℕ). b * P) top ∙ scale P _ _ (bit (x / 2 ^ n)) (bit (y / 2 ^ n)))
      ∙ across (x * 2) (y * 2) (x / 2 ^ n % 2 * P) (y / 2 ^ n % 2 * P)

  pub shift_bit : (y b : ℕ) → b < 2 → b * shift n P y ≡ shift n P (b * y)
  shift_bit y =
      by_bit (λ b. b * shift n P y ≡ shift n P (b * y))
      (zero-mul (shift n P y) ∙ sym (ap (shift n P) (zero-mul y) ∙ shift_zero))
      (one-mul (shift n P y) ∙ sym (ap (shift n P) (one-mul y)))

  pub shifts_xor : (k x y : ℕ) → shifts n P k (bit_xor x y) ≡ bit_xor (shifts n P k x) (shifts n P k y)
  unfolding shifts
  shifts_xor zero x y = refl
  shifts_xor (suc k) x y = ap (shift n P) (shifts_xor k x y) ∙ shift_xor (shifts n P k x) (shifts n P k y)

  pub shifts_zero : (k : ℕ) → shifts n P k 0 ≡ 0
  unfolding shifts
  shifts_zero zero = refl
  shifts_zero (suc k) = ap (shift n P) (shifts_zero k) ∙ shift_zero

  pub shifts_shifts : (j k y : ℕ) → shifts n P j (shifts n P k y) ≡ shifts n P (j + k) y
  unfolding shifts
  shifts_shifts zero k y = ap (λ (m : ℕ). shifts n P m y) (sym (zero-add k))
  shifts_shifts (suc j) k y = ap (shift n P) (shifts_shifts j k y) ∙ ap (λ (m : ℕ). shifts n P m y) (sym (suc-add j k))

  -- the product

  pub product_zero : (m y : ℕ) → product n P m 0 y ≡ 0
  unfolding product
  product_zero zero y = refl
  product_zero (suc m) y = ap₂ bit_xor (zero-mul y) (product_zero m (shift n P y))

  pub product_one : (m y : ℕ) → product n P (suc m) 1 y ≡ y
  unfolding product
  product_one m y = ap₂ bit_xor (one-mul y) (product_zero m (shift n P y)) ∙ xor_zero_r y

  -- additive on the right
  pub product_right : (m x y z : ℕ) → product n P m x (bit_xor y z) ≡ bit_xor (product n P m x y) (product n P m x z)
  unfolding product
  product_right zero x y z = refl
  product_right (suc m) x y z =
      let here : x % 2 * bit_xor y z ≡ bit_xor (x % 2 * y) (x % 2 * z) =
      by_bit (λ b. b * bit_xor y z ≡ bit_xor (b * y) (b * z))
      (zero-mul (bit_xor y z) ∙ sym (ap₂ bit_xor (zero-mul y) (zero-mul z)))
      (one-mul (bit_xor y z) ∙ sym (ap₂ bit_xor (one-mul y) (one-mul z)))
      (x % 2) (bit x) in
      ap₂ bit_xor here (ap (product n P m (x / 2)) (shift_xor y z) ∙ product_right m (x / 2) (shift n P y) (shift n P z))
      ∙ across (x % 2 * y) (x % 2 * z) (product n P m (x / 2) (shift n P y)) (product n P m (x / 2) (shift n P z))

  -- additive on the left
  pub product_left : (m x w y : ℕ) → product n P m (bit_xor x w) y ≡ bit_xor (product n P m x y) (product n P m w y)
  unfolding product
  product_left zero x w y = refl
  product_left (suc m) x w y =
      ap₂ bit_xor (ap (λ (b : ℕ). b * y) (lows x w) ∙ scale y _ _ (bit x) (bit w))
      (ap (λ (q : ℕ). product n P m q (shift n P y)) (halves x w) ∙ product_left m (x / 2) (w / 2) (shift n P y))
      ∙ across (x % 2 * y) (w % 2 * y) (product n P m (x / 2) (shift n P y)) (product n P m (w / 2) (shift n P y))

  pub product_shift : (m x y : ℕ) → product n P m x (shift n P y) ≡ shift n P (product n P m x y)
  unfolding product
  product_shift zero x y = sym shift_zero
  product_shift (suc m) x y =
      ap₂ bit_xor (shift_bit y (x % 2) (bit x)) (product_shift m (x / 2) (shift n P y))
      ∙ sym (shift_xor (x % 2 * y) (product n P m (x / 2) (shift n P y)))

  pub product_shifts : (m x k y : ℕ) → product n P m x (shifts n P k y) ≡ shifts n P k (product n P m x y)
  unfolding shifts
  product_shifts m x zero y = refl
  product_shifts m x (suc k) y = product_shift m x (shifts n P k y) ∙ ap (shift n P) (product_shifts m x k y)

  pub product_even : (m x y : ℕ) → product n P (suc m) (x * 2) y ≡ product n P m x (shift n P y)
  unfolding product
  product_even m x y =
      ap₂ bit_xor (ap (λ (b : ℕ). b * y) (mul-mod_left x 2) ∙ zero-mul y)
      (ap (λ (q : ℕ). product n P m q (shift n P y)) (mul-div_cancel x two_pos))

  -- a bit more of x, where x has no more
  pub product_more : (m x y : ℕ) → x < 2 ^ m → product n P (suc m) x y ≡ product n P m x y
  unfolding product
  product_more zero zero y h = ap (λ (q : ℕ). bit_xor q 0) (zero-mul y)
  product_more zero (suc x) y h = absurd (omega arith)
  product_more (suc m) x y h =
      ap (bit_xor (x % 2 * y)) (product_more m (x / 2) (shift n P y) ((div-lt_iff_lt-mul two_pos).1 (rw (pow-suc 2 m) at h)))
