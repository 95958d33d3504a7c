-- The laws of a field, carried over from the numbers that stand for its elements.
use Rattle.std.specs.Prelude.{◌≡◌, ℕ, zero, suc, ◌-◌, ◌%◌, ◌^◌, ◌<◌, ◌⊎◌, ◌≢◌, bit_xor, refl}
use Rattle.std.proofs.Common.{sym, ap, ◌∙◌, subst, inl, inr, mod-eq_of_lt, arith}
use Rattle.std.proofs.Math.Path.{ap₂}
use Rattle.std.proofs.lemmas.Nat.{xor_comm, xor_lt}
use Rattle.std.specs.Int.Bits.{xor_assoc, xor_self}
use Rattle.galois.specs.Binary.{shift, product, shifts}
use Rattle.galois.specs.Field.{Laws, power}
use Rattle.galois.specs.Fields.{binary_field}
use Rattle.galois.specs.Galois as field
use Rattle.galois.specs.Galois.{Sound}
use Rattle.galois.specs.Linear as linear

-- a type whose values stand for the numbers below `size`
pub record Coded (F : Type 0) (size : ℕ) (bits : F → ℕ) (of : ℕ → F) : Type 0 where
  pub below : (x : F) → bits x < size
  pub back : (b : ℕ) → bits (of b) ≡ b % size
  pub same : (x y : F) → bits x ≡ bits y → x ≡ y

module _ {n P order : ℕ} {log : ℕ → ℕ} (s : Sound n P order log) {F : Type 0} {bits : F → ℕ} {of : ℕ → F} (c : Coded F (2 ^ suc n) bits of) where
  exact : (b : ℕ) → b < 2 ^ suc n → bits (of b) ≡ b
  exact b h = c.back b ∙ mod-eq_of_lt h

  plus_bits : (x y : F) → bits (of (bit_xor (bits x) (bits y))) ≡ bit_xor (bits x) (bits y)
  plus_bits x y = exact _ (xor_lt (suc n) (bits x) (bits y) (c.below x) (c.below y))

  times_bits : (x y : F) → bits (of (product n P (suc n) (bits x) (bits y))) ≡ product n P (suc n) (bits x) (bits y)
  times_bits x y = exact _ (field.product_lt s (bits x) (bits y) (c.below x) (c.below y))

  pub two_lt : 2 < 2 ^ suc n
  two_lt = subst (λ (q : ℕ). q < 2 ^ suc n) s.two (field.shift_lt s 1 (field.one_lt s))

  -- alpha times an element is its shift
  pub alpha_bits : (y : ℕ) → y < 2 ^ suc n → product n P (suc n) 2 y ≡ shift n P y
  alpha_bits y h =
      ap (λ (q : ℕ). product n P (suc n) q y) (sym s.two) ∙ field.product_shifted_left s 1 y (field.one_lt s) h
      ∙ ap (shift n P) (linear.product_one n P n y)

  power_bits : (i : ℕ) → bits (power (binary_field n P bits of) (of 2) i) ≡ shifts n P i 1
  unfolding shifts power
  power_bits zero = exact 1 (field.one_lt s)
  power_bits (suc i) =
      times_bits (of 2) (power (binary_field n P bits of) (of 2) i)
      ∙ ap₂ (product n P (suc n)) (exact 2 two_lt) (power_bits i)
      ∙ alpha_bits (shifts n P i 1) (field.shifts_lt s i 1 (field.one_lt s))

  invert : (x : F) (b : ℕ) → bits x ≡ b → (x ≢ of 0) → (y : F) × (of (product n P (suc n) (bits x) (bits y)) ≡ of 1)
  invert x zero e h = absurd (h (c.same x (of 0) (e ∙ sym (exact 0 (omega (arith, field.one_lt s))))))
  invert x (suc b) e h =
      let m = order - log (suc b) in
      (of (shifts n P m 1), ap of (ap₂ (product n P (suc n)) e (exact (shifts n P m 1) (field.shifts_lt s m 1 (field.one_lt s))) ∙ field.inverse s b (subst (λ (q : ℕ). q < 2 ^ suc n) e (c.below x))))

  -- a product with what the rest of the order gives
  pub of_inverse : (x y : F) (a b : ℕ) → shifts n P a 1 ≡ bits x → a < order → b ≡ shifts n P (order - a) 1 → y ≡ of b → of (product n P (suc n) (bits x) (bits y)) ≡ of 1
  of_inverse x y a b ea h eb ey =
      ap of (ap (product n P (suc n) (bits x)) (ap bits (ey ∙ ap of eb) ∙ exact _ (field.shifts_lt s (order - a) 1 (field.one_lt s))) ∙ field.of_rest s a (bits x) ea h)

  -- a product with zero
  pub of_zero : (x y : F) → (bits x ≡ 0) ⊎ (bits y ≡ 0) → of 0 ≡ of (product n P (suc n) (bits x) (bits y))
  of_zero x y (inl e) = ap of (sym (ap (λ (q : ℕ). product n P (suc n) q (bits y)) e ∙ linear.product_zero n P (suc n) (bits y)))
  of_zero x y (inr e) = ap of (sym (ap (product n P (suc n) (bits x)) e ∙ field.product_by_zero s (bits x) (c.below x)))

  pub laws : Laws (binary_field n P bits of)
  laws = record {
    plus_comm = λ x y. ap of (xor_comm (bits x) (bits y));
    plus_assoc = λ x y z. ap of (ap (λ (q : ℕ). bit_xor q (bits z)) (plus_bits x y) ∙ xor_assoc (bits x) (bits y) (bits z) ∙ sym (ap (bit_xor (bits x)) (plus_bits y z)));
    zero_plus = λ x. c.same _ x (plus_bits (of 0) x ∙ ap (λ (q : ℕ). bit_xor q (bits x)) (exact 0 (omega (arith, field.one_lt s))));
    plus_self = λ x. ap of (xor_self (bits x));
    times_comm = λ x y. ap of (field.comm s (bits x) (bits y) (c.below x) (c.below y));
    times_assoc = λ x y z. ap of (ap (λ (q : ℕ). product n P (suc n) q (bits z)) (times_bits x y) ∙ field.assoc s (bits x) (bits y) (bits z) (c.below x) (c.below y) (c.below z) ∙ sym (ap (product n P (suc n) (bits x)) (times_bits y z)));
    one_times = λ x. c.same _ x (times_bits (of 1) x ∙ ap (λ (q : ℕ). product n P (suc n) q (bits x)) (exact 1 (field.one_lt s)) ∙ linear.product_one n P n (bits x));
    times_plus = λ x y z. ap of (ap (product n P (suc n) (bits x)) (plus_bits y z) ∙ linear.product_right n P (suc n) (bits x) (bits y) (bits z) ∙ sym (ap₂ bit_xor (times_bits x y) (times_bits x z)));
    invertible = λ x h. invert x (bits x) refl h;
    powers_differ = λ i j hi hj e. field.apart s i j (omega (arith, s.size, hi)) (omega (arith, s.size, hj)) (sym (power_bits i) ∙ ap bits e ∙ power_bits j);
    number_below = c.below;
    same_number = c.same;
  }
