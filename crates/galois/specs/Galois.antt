-- The laws of a field of 2 ^ (n + 1) elements, from one test over its elements that antt computes.
use Rattle.std.specs.Prelude.{◌≡◌, ℕ, zero, suc, ◌+◌, ◌-◌, ◌*◌, ◌/◌, ◌%◌, ◌^◌, ◌<◌, ◌≤◌, Bool, true, false, T, bit_xor, nat_eq, nat_lt}
use Rattle.std.proofs.Math.Path.{refl, ap}
use Rattle.std.proofs.Common.{sym, ap₂, ◌∙◌, subst, zero-mul, one-mul, add_comm, add-sub_of_le, arith, eqb→eq, ltb→lt}
use Rattle.std.proofs.Math.Decide.{ℕ_discrete}
use Rattle.std.specs.Int.Bits.{xor_zero_r}
use Rattle.galois.specs.Binary.{shift, product, shifts}
use Rattle.galois.specs.Linear as linear

-- tests at each number below n

unfoldable pub both : Bool → Bool → Bool
both true b = b
both false b = false

pub both_left : (a b : Bool) → T (both a b) → T a
unfolding both
both_left true b t = tt
both_left false b t = t

pub both_right : (a b : Bool) → T (both a b) → T b
unfolding both
both_right true b t = t
both_right false b t = absurd t

unfoldable pub each : (ℕ → Bool) → ℕ → Bool
each f zero = true
each f (suc n) = both (f n) (each f n)

pub at : (f : ℕ → Bool) (n : ℕ) → T (each f n) → (k : ℕ) → k < n → T (f k)
unfolding each
at f zero t k h = absurd (omega arith)
at f (suc n) t k h =
    elim (ℕ_discrete k n) [
      | yes e ↦ subst (λ (m : ℕ). T (f m)) (sym e) (both_left (f n) (each f n) t)
      | no e ↦ at f n (both_right (f n) (each f n) t) k (omega arith)
    ]

-- what antt computes of one field

-- A shift stays within the field; P times anything is zero; log is the logarithm to the base alpha.
pub record Sound (n P order : ℕ) (log : ℕ → ℕ) : Type 0 where
  pub size : 2 ^ suc n ≡ suc order
  pub some : 0 < order
  pub kept : T (each (λ x. nat_lt (shift n P x) (2 ^ suc n)) (2 ^ suc n))
  pub root : T (each (λ y. nat_eq (product n P (suc (suc n)) P y) 0) (2 ^ suc n))
  pub logs : T (each (λ x. nat_eq (shifts n P (log (suc x)) 1) (suc x)) order)
  pub small : T (each (λ x. nat_lt (log (suc x)) order) order)
  pub powers : T (each (λ k. nat_eq (log (shifts n P k 1)) k) order)
  pub whole : shifts n P order 1 ≡ 1
  pub two : shift n P 1 ≡ 2

module _ {n P order : ℕ} {log : ℕ → ℕ} (s : Sound n P order log) where
  pub shift_lt : (x : ℕ) → x < 2 ^ suc n → shift n P x < 2 ^ suc n
  shift_lt x h = ltb→lt _ _ (at (λ x. nat_lt (shift n P x) (2 ^ suc n)) (2 ^ suc n) s.kept x h)

  pub one_lt : 1 < 2 ^ suc n
  one_lt = omega (arith, s.size, s.some)

  pub shifts_lt : (k x : ℕ) → x < 2 ^ suc n → shifts n P k x < 2 ^ suc n
  unfolding shifts
  shifts_lt zero x h = h
  shifts_lt (suc k) x h = shift_lt (shifts n P k x) (shifts_lt k x h)

  pub gone : (y : ℕ) → y < 2 ^ suc n → product n P (suc (suc n)) P y ≡ 0
  gone y h = eqb→eq _ _ (at (λ y. nat_eq (product n P (suc (suc n)) P y) 0) (2 ^ suc n) s.root y h)

  parts : (x y : ℕ) → product n P (suc (suc n)) (shift n P x) y ≡ bit_xor (product n P (suc (suc n)) (x * 2) y) (product n P (suc (suc n)) (x / 2 ^ n % 2 * P) y)
  unfolding shift
  parts x y = linear.product_left n P (suc (suc n)) (x * 2) (x / 2 ^ n % 2 * P) y

  -- a shift of the first factor shifts the product
  pub product_shifted_left : (x y : ℕ) → x < 2 ^ suc n → y < 2 ^ suc n → product n P (suc n) (shift n P x) y ≡ shift n P (product n P (suc n) x y)
  product_shifted_left x y hx hy =
      sym (linear.product_more n P (suc n) (shift n P x) y (shift_lt x hx))
      ∙ parts x y
      ∙ ap₂ bit_xor (linear.product_even n P (suc n) x y ∙ linear.product_shift n P (suc n) x y) none
      ∙ xor_zero_r _
    where
      none : product n P (suc (suc n)) (x / 2 ^ n % 2 * P) y ≡ 0
      none = linear.by_bit (λ b. product n P (suc (suc n)) (b * P) y ≡ 0)
          (ap (λ (q : ℕ). product n P (suc (suc n)) q y) (zero-mul P) ∙ linear.product_zero n P (suc (suc n)) y)
          (ap (λ (q : ℕ). product n P (suc (suc n)) q y) (one-mul P) ∙ gone y hy)
          (x / 2 ^ n % 2) (linear.bit (x / 2 ^ n))

  pub product_raised : (k x y : ℕ) → x < 2 ^ suc n → y < 2 ^ suc n → product n P (suc n) (shifts n P k x) y ≡ shifts n P k (product n P (suc n) x y)
  unfolding shifts
  product_raised zero x y hx hy = refl
  product_raised (suc k) x y hx hy =
      product_shifted_left (shifts n P k x) y (shifts_lt k x hx) hy ∙ ap (shift n P) (product_raised k x y hx hy)

  pub log_is : (x : ℕ) → suc x < 2 ^ suc n → shifts n P (log (suc x)) 1 ≡ suc x
  log_is x h = eqb→eq _ _ (at (λ x. nat_eq (shifts n P (log (suc x)) 1) (suc x)) order s.logs x (omega (arith, s.size)))

  pub log_lt : (x : ℕ) → suc x < 2 ^ suc n → log (suc x) < order
  log_lt x h = ltb→lt _ _ (at (λ x. nat_lt (log (suc x)) order) order s.small x (omega (arith, s.size)))

  -- the product is as many shifts as the first factor's logarithm
  pub by_log : (x y : ℕ) → suc x < 2 ^ suc n → y < 2 ^ suc n → product n P (suc n) (suc x) y ≡ shifts n P (log (suc x)) y
  by_log x y hx hy =
      ap (λ (q : ℕ). product n P (suc n) q y) (sym (log_is x hx))
      ∙ product_raised (log (suc x)) 1 y one_lt hy
      ∙ ap (shifts n P (log (suc x))) (linear.product_one n P n y)

  pub product_lt : (x y : ℕ) → x < 2 ^ suc n → y < 2 ^ suc n → product n P (suc n) x y < 2 ^ suc n
  product_lt zero y hx hy = rw (linear.product_zero n P (suc n) y) hx
  product_lt (suc x) y hx hy = rw (by_log x y hx hy) (shifts_lt (log (suc x)) y hy)

  pub product_by_zero : (x : ℕ) → x < 2 ^ suc n → product n P (suc n) x 0 ≡ 0
  product_by_zero zero hx = linear.product_zero n P (suc n) 0
  product_by_zero (suc x) hx = by_log x 0 hx (omega (arith, one_lt)) ∙ linear.shifts_zero n P (log (suc x))

  pub comm : (x y : ℕ) → x < 2 ^ suc n → y < 2 ^ suc n → product n P (suc n) x y ≡ product n P (suc n) y x
  comm zero y hx hy = linear.product_zero n P (suc n) y ∙ sym (product_by_zero y hy)
  comm (suc x) zero hx hy = product_by_zero (suc x) hx ∙ sym (linear.product_zero n P (suc n) (suc x))
  comm (suc x) (suc y) hx hy =
      by_log x (suc y) hx hy ∙ ap (shifts n P (log (suc x))) (sym (log_is y hy)) ∙ linear.shifts_shifts n P (log (suc x)) (log (suc y)) 1
      ∙ ap (λ (k : ℕ). shifts n P k 1) (add_comm (log (suc x)) (log (suc y)))
      ∙ sym (by_log y (suc x) hy hx ∙ ap (shifts n P (log (suc y))) (sym (log_is x hx)) ∙ linear.shifts_shifts n P (log (suc y)) (log (suc x)) 1)

  pub assoc : (x y z : ℕ) → x < 2 ^ suc n → y < 2 ^ suc n → z < 2 ^ suc n → product n P (suc n) (product n P (suc n) x y) z ≡ product n P (suc n) x (product n P (suc n) y z)
  assoc zero y z hx hy hz =
      ap (λ (q : ℕ). product n P (suc n) q z) (linear.product_zero n P (suc n) y) ∙ linear.product_zero n P (suc n) z
      ∙ sym (linear.product_zero n P (suc n) (product n P (suc n) y z))
  assoc (suc x) y z hx hy hz =
      ap (λ (q : ℕ). product n P (suc n) q z) (by_log x y hx hy) ∙ product_raised (log (suc x)) y z hy hz
      ∙ sym (by_log x (product n P (suc n) y z) hx (product_lt y z hy hz))

  -- what is left to the order gives the inverse
  pub inverse : (x : ℕ) → suc x < 2 ^ suc n → product n P (suc n) (suc x) (shifts n P (order - log (suc x)) 1) ≡ 1
  inverse x hx =
      let within : log (suc x) ≤ order = omega (arith, log_lt x hx) in
      by_log x _ hx (shifts_lt (order - log (suc x)) 1 one_lt) ∙ linear.shifts_shifts n P (log (suc x)) (order - log (suc x)) 1
      ∙ ap (λ (k : ℕ). shifts n P k 1) (add-sub_of_le within) ∙ s.whole

  pub apart : (i j : ℕ) → i < order → j < order → shifts n P i 1 ≡ shifts n P j 1 → i ≡ j
  apart i j hi hj e = sym (back i hi) ∙ ap log e ∙ back j hj
    where
      back : (k : ℕ) → k < order → log (shifts n P k 1) ≡ k
      back k h = eqb→eq _ _ (at (λ k. nat_eq (log (shifts n P k 1)) k) order s.powers k h)

  -- the sum of the logarithms is that of the product
  pub of_logs : (a b x y : ℕ) → shifts n P a 1 ≡ x → shifts n P b 1 ≡ y → shifts n P (a + b) 1 ≡ product n P (suc n) x y
  of_logs a b x y ea eb =
      sym (linear.shifts_shifts n P a b 1) ∙ ap (shifts n P a) eb
      ∙ sym (ap (λ (q : ℕ). product n P (suc n) q y) (sym ea) ∙ product_raised a 1 y one_lt (subst (λ (q : ℕ). q < 2 ^ suc n) eb (shifts_lt b 1 one_lt))
      ∙ ap (shifts n P a) (linear.product_one n P n y))

  pub of_rest : (a x : ℕ) → shifts n P a 1 ≡ x → a < order → product n P (suc n) x (shifts n P (order - a) 1) ≡ 1
  of_rest a x e h =
      let within : a ≤ order = omega arith in
      sym (of_logs a (order - a) x _ e refl) ∙ ap (λ (k : ℕ). shifts n P k 1) (add-sub_of_le within) ∙ s.whole

  -- the logarithm of a number that is not 0
  pub logarithm : (b : ℕ) → 0 < b → b < 2 ^ suc n → (shifts n P (log b) 1 ≡ b) × (log b < order)
  logarithm zero p h = absurd (omega arith)
  logarithm (suc b) p h = (log_is b h, log_lt b h)
