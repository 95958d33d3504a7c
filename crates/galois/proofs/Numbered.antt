-- What the tables of a field tell of its elements.
use Rattle.std.specs.Prelude.{◌≡◌, ℕ, suc, ◌+◌, ◌-◌, ◌*◌, ◌/◌, ◌%◌, ◌^◌, ◌<◌, ◌≤◌, ◌⊎◌, ◌≢◌, List, bit_xor, slice_index}
use Rattle.std.proofs.Common.{sym, ap, ◌∙◌, subst, inl, mod-eq_of_lt, arith, refl}
use Rattle.std.proofs.lemmas.Nat.{xor_lt}
use Rattle.galois.specs.Binary.{shift, shifts, product}
use Rattle.galois.specs.Elements.{same}
use Rattle.galois.specs.Field.{Inverse}
use Rattle.galois.specs.Fields.{numbered}
use Rattle.galois.specs.Galois as field
use Rattle.galois.specs.Laws as field_laws
use Rattle.galois.specs.Tabled.{Tabled}
use Rattle.galois.specs.declared.cubic.Cubic.{Cubic}
use Rattle.galois.specs.declared.element.Element.{Element}

-- zero is not one
differ : {a : ℕ} → 0 ≡ suc a → ⊥
differ e = omega arith

module _ {size n P : ℕ} {of : ℕ → Element size} {logs powers : List ℕ} {products : Cubic (List ℕ)} {reduction : ℕ} (t : Tabled size n P of logs powers products reduction) where
  in_field : (b : ℕ) → b < size → b < 2 ^ suc n
  in_field b h = subst (λ (s : ℕ). b < s) t.size_is h

  below : (b : ℕ) → b < 2 ^ suc n → b < size
  below b h = subst (λ (s : ℕ). b < s) (sym t.size_is) h

  pub element_is : (x : Element size) (b : ℕ) → b < size → x.bits ≡ b → x ≡ of b
  element_is x b h e = same x (of b) (e ∙ sym (t.coded.back b ∙ mod-eq_of_lt (in_field b h)))

  pub log_is : (b : ℕ) → (b ≢ 0) → b < size → (shifts n P (slice_index logs b) 1 ≡ b) × (slice_index logs b < size - 1)
  log_is b p h = field.logarithm t.sound b (omega arith) (in_field b h)

  pub power_below : (k : ℕ) → k < 2 * (size - 1) → slice_index powers k < size
  power_below k h = below _ (subst (λ (b : ℕ). b < 2 ^ suc n) (sym (t.powers_are k h)) (field.shifts_lt t.sound k 1 (field.one_lt t.sound)))

  pub sum_below : (x y : Element size) → bit_xor x.bits y.bits < size
  sum_below x y = below _ (xor_lt (suc n) x.bits y.bits (in_field _ x.below) (in_field _ y.below))

  pub product_is : (x y : Element size) (i j : ℕ) → shifts n P i 1 ≡ x.bits → shifts n P j 1 ≡ y.bits →
      of (shifts n P (i + j) 1) ≡ of (product n P (suc n) x.bits y.bits)
  product_is x y i j ex ey = ap of (field.of_logs t.sound i j _ _ ex ey)

  pub product_zero : (x y : Element size) → (x.bits ≡ 0) ⊎ (y.bits ≡ 0) → of 0 ≡ of (product n P (suc n) x.bits y.bits)
  product_zero x y h = field_laws.of_zero t.sound t.coded x y h

  times_alpha_is : (x : Element size) → shift n P x.bits ≡ product n P (suc n) (of 2).bits x.bits
  times_alpha_is x =
      sym (field_laws.alpha_bits t.sound t.coded x.bits (in_field _ x.below))
      ∙ ap (λ (a : ℕ). product n P (suc n) a x.bits) (sym (t.coded.back 2 ∙ mod-eq_of_lt (field_laws.two_lt t.sound t.coded)))

  half : size / 2 ≡ 2 ^ n
  half = omega (arith, t.size_is)

  pub alpha_low : (x : Element size) → x.bits < size / 2 → of (x.bits * 2 % 256) ≡ of (product n P (suc n) (of 2).bits x.bits)
  alpha_low x h = ap of (t.low x.bits (omega (arith, half)) ∙ times_alpha_is x)

  pub alpha_high : (x : Element size) → size / 2 ≤ x.bits → of (bit_xor (x.bits * 2 % 256) reduction) ≡ of (product n P (suc n) (of 2).bits x.bits)
  alpha_high x h = ap of (t.high x.bits (omega (arith, half)) x.below ∙ times_alpha_is x)

  pub alpha_below : (x : Element size) → size / 2 ≤ x.bits → bit_xor (x.bits * 2 % 256) reduction < size
  alpha_below x h =
      below _ (subst (λ (b : ℕ). b < 2 ^ suc n) (sym (t.high x.bits (omega (arith, half)) x.below)) (field.shift_lt t.sound x.bits (in_field _ x.below)))

  bits_of : (b : ℕ) → b < 2 ^ suc n → (of b).bits ≡ b
  bits_of b h = t.coded.back b ∙ mod-eq_of_lt h

  positive : 0 < 2 ^ suc n
  positive = omega (arith, field.one_lt t.sound)

  pub inverse_is : (x : Element size) (k : ℕ) → shifts n P k 1 ≡ x.bits → k < size - 1 → Inverse (numbered n P of) x (of (shifts n P (size - 1 - k) 1))
  inverse_is x k e h = record { of_zero = λ z. absurd (apart z); of_other = λ _. gives_one }
    where
      y : Element size
      y = of (shifts n P (size - 1 - k) 1)

      gives_one : of (product n P (suc n) x.bits y.bits) ≡ of 1
      gives_one = field_laws.of_inverse t.sound t.coded x y k _ e h refl refl

      apart : x ≡ of 0 → ⊥
      apart z =
          let none : of 0 ≡ of 1 = product_zero x y (inl (ap (λ (a : Element size). a.bits) z ∙ bits_of 0 positive)) ∙ gives_one in
          differ (sym (bits_of 0 positive) ∙ ap (λ (a : Element size). a.bits) none ∙ bits_of 1 (field.one_lt t.sound))
