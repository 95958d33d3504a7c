-- What the syndromes point to mends the word: the values found there have the word's own syndromes.
use mathlib.Core.Path.{◌≡◌, refl, sym, ◌∙◌, ap₂}
use mathlib.Core.List.{List}
use Prim.Native.Nat.{ℕ, zero, suc, ◌<◌, ◌≤◌}
use native.Mathlib.Omega.{arith}
use lib.ListN.{length}
use Rattle.galois.specs.Field.{Arithmetic, Laws, power}
use Rattle.reed_solomon.specs.Code.{Coded, syndrome}
use Rattle.reed_solomon.specs.Errors.{altered, locator, determinant, quadratic}
use Rattle.reed_solomon.proofs.Ring.{ring, plus_cancel, times_both, plus_self}
use Rattle.reed_solomon.proofs.Clauses.{powers}
use Rattle.reed_solomon.proofs.Errors.{length_altered, syndrome_altered}
use Rattle.reed_solomon.proofs.Factors.{coded_by_syndromes}

module _ {F : Type 0} (K : Arithmetic F) (laws : Laws K) where
  open K use {zero as 𝟘, one as 𝟙, plus as ◌+◌, times as ◌*◌}

  infixl 60 ◌+◌
  infixl 70 ◌*◌
  -- two roots of a quadratic: their power sums follow its recurrence
  recurrence : (d m l x y a b : F) → d * (x * x) + m * x + l ≡ 𝟘 → d * (y * y) + m * y + l ≡ 𝟘 →
      (a * (x * x) + b * (y * y)) * d ≡ m * (a * x + b * y) + l * (a + b)
  recurrence d m l x y a b qx qy = plus_cancel K laws _ _ (together ∙ rw (qx, qy) (simp ring))
    where
      together : (a * (x * x) + b * (y * y)) * d + (m * (a * x + b * y) + l * (a + b))
          ≡ a * (d * (x * x) + m * x + l) + b * (d * (y * y) + m * y + l)
      together = simp ring

  -- the sums of order 2 and 3 are those of the syndromes, where those of order 0 and 1 are
  module _ (s₀ s₁ s₂ s₃ x y a b : F) (regular : ¬ (s₀ * s₂ + s₁ * s₁ ≡ 𝟘))
      (qx : (s₀ * s₂ + s₁ * s₁) * (x * x) + (s₀ * s₃ + s₁ * s₂) * x + (s₁ * s₃ + s₂ * s₂) ≡ 𝟘)
      (qy : (s₀ * s₂ + s₁ * s₁) * (y * y) + (s₀ * s₃ + s₁ * s₂) * y + (s₁ * s₃ + s₂ * s₂) ≡ 𝟘)
      (first : a * (x + y) ≡ s₀ * y + s₁) (second : b ≡ s₀ + a) where
    sum₀ : s₀ ≡ a + b
    sum₀ = rw second (simp ring)

    sum₁ : s₁ ≡ a * x + b * y
    sum₁ = plus_cancel K laws _ _ (regroup ∙ rw first (simp ring))
      where
        regroup : s₁ + (a * x + b * y) ≡ s₁ + (a * (x + y) + s₀ * y)
        regroup = rw second (simp ring)

    sum₂ : s₂ ≡ a * (x * x) + b * (y * y)
    sum₂ = times_both K laws _ _ (s₀ * s₂ + s₁ * s₁) regular
        (by_syndromes ∙ ap₂ (λ u v. (s₀ * s₃ + s₁ * s₂) * u + (s₁ * s₃ + s₂ * s₂) * v) sum₁ sum₀ ∙ sym (recurrence _ _ _ x y a b qx qy))
      where
        by_syndromes : s₂ * (s₀ * s₂ + s₁ * s₁) ≡ (s₀ * s₃ + s₁ * s₂) * s₁ + (s₁ * s₃ + s₂ * s₂) * s₀
        by_syndromes = simp ring

    sum₃ : s₃ ≡ a * (x * (x * x)) + b * (y * (y * y))
    sum₃ = times_both K laws _ _ (s₀ * s₂ + s₁ * s₁) regular
        (by_syndromes ∙ ap₂ (λ u v. (s₀ * s₃ + s₁ * s₂) * u + (s₁ * s₃ + s₂ * s₂) * v) (sum₂ ∙ simp ring) sum₁
        ∙ sym (recurrence _ _ _ x y (a * x) (b * y) qx qy) ∙ simp ring)
      where
        by_syndromes : s₃ * (s₀ * s₂ + s₁ * s₁) ≡ (s₀ * s₃ + s₁ * s₂) * s₂ + (s₁ * s₃ + s₂ * s₂) * s₁
        by_syndromes = simp ring

-- four facts, at the four numbers below 4
pub below_four : (P : ℕ → Type 0) → P 0 → P 1 → P 2 → P 3 → (k : ℕ) → k < 4 → P k
below_four P p₀ p₁ p₂ p₃ zero h = p₀
below_four P p₀ p₁ p₂ p₃ (suc zero) h = p₁
below_four P p₀ p₁ p₂ p₃ (suc (suc zero)) h = p₂
below_four P p₀ p₁ p₂ p₃ (suc (suc (suc zero))) h = p₃
below_four P p₀ p₁ p₂ p₃ (suc (suc (suc (suc k)))) h = absurd (omega arith)

-- Where each syndrome times one locator is the next, adding S₀ at its place gives a coded word.
pub mends_one : {F : Type 0} (K : Arithmetic F) → Laws K → (n : ℕ) → 5 ≤ n → n ≤ K.order →
    (w : List F) → length w ≡ n → (i : ℕ) → i < n →
    ((k : ℕ) → k < 3 → K.times (syndrome K w k) (locator K n i) ≡ syndrome K w (suc k)) →
    Coded K n (altered K w i (syndrome K w 0))
mends_one K laws n five short w size i h steps =
    (coded_by_syndromes K laws n five short _ (length_altered K laws w i _ ∙ size)).1
    (λ k small. syndrome_altered K laws n k w i _ size h ∙ ap₂ K.plus (sums k small) refl ∙ plus_self K laws _)
  where
    sums : (k : ℕ) → k < 4 → syndrome K w k ≡ K.times (syndrome K w 0) (power K (locator K n i) k)
    sums = below_four _
        (simp (powers, ring))
        (sym (steps 0 (omega arith)) ∙ simp (powers, ring))
        (sym (steps 1 (omega arith)) ∙ rw (← steps 0 (omega arith)) (simp (powers, ring)))
        (sym (steps 2 (omega arith)) ∙ rw (← steps 1 (omega arith), ← steps 0 (omega arith)) (simp (powers, ring)))

-- the sums of two terms, at the two roots
pub two_sums : {F : Type 0} (K : Arithmetic F) (laws : Laws K) (w : List F) (x y a b : F) →
    ¬ (determinant K w ≡ K.zero) → quadratic K w x ≡ K.zero → quadratic K w y ≡ K.zero →
    K.times a (K.plus x y) ≡ K.plus (K.times (syndrome K w 0) y) (syndrome K w 1) → b ≡ K.plus (syndrome K w 0) a →
    (k : ℕ) → k < 4 → syndrome K w k ≡ K.plus (K.times a (power K x k)) (K.times b (power K y k))
unfolding determinant quadratic
two_sums K laws w x y a b regular qi qj first second = below_four _
    (sum₀ K laws _ _ _ _ _ _ a b regular qi qj first second ∙ simp (powers, ring))
    (sum₁ K laws _ _ _ _ _ _ a b regular qi qj first second ∙ simp powers)
    (sum₂ K laws _ _ _ _ _ _ a b regular qi qj first second ∙ simp powers)
    (sum₃ K laws _ _ _ _ _ _ a b regular qi qj first second ∙ simp powers)

-- Where two locators are roots of the quadratic, adding the two values at their places does.
pub mends_two : {F : Type 0} (K : Arithmetic F) → Laws K → (n : ℕ) → 5 ≤ n → n ≤ K.order →
    (w : List F) → length w ≡ n → (i j : ℕ) → i < n → j < n → (a b : F) →
    ¬ (determinant K w ≡ K.zero) → quadratic K w (locator K n i) ≡ K.zero → quadratic K w (locator K n j) ≡ K.zero →
    K.times a (K.plus (locator K n i) (locator K n j)) ≡ K.plus (K.times (syndrome K w 0) (locator K n j)) (syndrome K w 1) →
    b ≡ K.plus (syndrome K w 0) a →
    Coded K n (altered K (altered K w i a) j b)
mends_two K laws n five short w size i j hi hj a b regular qi qj first second =
    (coded_by_syndromes K laws n five short _ (length_altered K laws _ j b ∙ length_altered K laws w i a ∙ size)).1
    (λ k small. syndrome_altered K laws n k _ j b (length_altered K laws w i a ∙ size) hj
    ∙ ap₂ K.plus (syndrome_altered K laws n k w i a size hi ∙ ap₂ K.plus (two_sums K laws w _ _ a b regular qi qj first second k small) refl) refl ∙ simp ring)
