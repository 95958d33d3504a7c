-- A word whose four syndromes are zero is coded: one linear factor is divided out after the other.
use mathlib.Core.Path.{◌≡◌, sym, ◌∙◌, ap}
use mathlib.Core.List.{List, reverse}
use Prim.Native.Nat.{ℕ, ◌<◌, ◌≤◌}
use native.Mathlib.Omega.{arith}
use lib.ListN.{length, length-reverse}
use Rattle.galois.specs.Field.{Arithmetic, Laws, power}
use Rattle.reed_solomon.specs.Polynomial.{product, value, linear}
use Rattle.reed_solomon.specs.Code.{generator, syndrome, CodedBySyndromes}
use Rattle.reed_solomon.proofs.Products.{product_assoc, Nonempty, nonempty_product, nonempty_linear}
use Rattle.reed_solomon.proofs.Division.{Divided, divided}
use Rattle.reed_solomon.proofs.Syndromes.{coded_syndrome}

module _ {F : Type 0} (K : Arithmetic F) (laws : Laws K) (n : ℕ) (five : 5 ≤ n) (short : n ≤ K.order) where
  open K use {zero as 𝟘, alpha as α}

  -- the powers of α that are roots
  other : (i j : ℕ) → i < j → j < 4 → ¬ (power K α i ≡ power K α j)
  other i j below small e = let same : i ≡ j = laws.powers_differ i j (omega arith) (omega arith) e in omega arith

  -- one more factor goes from the dividend to the divisor
  step : (k : ℕ) (q s : List F) {t u : List F} → Nonempty K laws s → product K q s ≡ u → product K u (linear K (power K α k)) ≡ t →
      product K q (product K s (linear K (power K α k))) ≡ t
  step k q s some e f = sym (product_assoc K laws _ q s some) ∙ ap (λ x. product K x (linear K (power K α k))) e ∙ f

  factored : (p : List F) → length p ≡ n → ((k : ℕ) → k < 4 → value K p (power K α k) ≡ 𝟘) → (q : List F) × (product K q (generator K) ≡ p)
  unfolding generator
  factored p size roots = (
    d₀.quotient,
    step 3 d₀.quotient _ (nonempty_product K laws _ _ (nonempty_product K laws _ _ (nonempty_linear K laws _) (nonempty_linear K laws _)) (nonempty_linear K laws _))
        (step 2 d₀.quotient _ (nonempty_product K laws _ _ (nonempty_linear K laws _) (nonempty_linear K laws _))
        (step 1 d₀.quotient _ (nonempty_linear K laws _) d₀.divides d₁.divides) d₂.divides) d₃.divides,
  )
    where
      d₃ : Divided K laws p (power K α 3)
      d₃ = divided K laws p (power K α 3) (omega arith) (roots 3 (omega arith))

      d₂ : Divided K laws d₃.quotient (power K α 2)
      d₂ = divided K laws d₃.quotient (power K α 2) (omega (arith, d₃.shorter)) (d₃.roots _ (other 2 3 (omega arith) (omega arith)) (roots 2 (omega arith)))

      d₁ : Divided K laws d₂.quotient (power K α 1)
      d₁ = divided K laws d₂.quotient (power K α 1) (omega (arith, d₃.shorter, d₂.shorter))
          (d₂.roots _ (other 1 2 (omega arith) (omega arith)) (d₃.roots _ (other 1 3 (omega arith) (omega arith)) (roots 1 (omega arith))))

      d₀ : Divided K laws d₁.quotient (power K α 0)
      d₀ = divided K laws d₁.quotient (power K α 0) (omega (arith, d₃.shorter, d₂.shorter, d₁.shorter))
          (d₁.roots _ (other 0 1 (omega arith) (omega arith))
          (d₂.roots _ (other 0 2 (omega arith) (omega arith)) (d₃.roots _ (other 0 3 (omega arith) (omega arith)) (roots 0 (omega arith)))))

pub coded_by_syndromes : {F : Type 0} → CodedBySyndromes F
unfolding syndrome
coded_by_syndromes K laws n five short w size = (
  coded_syndrome K laws n w,
  λ zeros. let f = factored K laws n five short (reverse w) (length-reverse w ∙ size) zeros in record { size = size; quotient = f.0; divides = f.1 },
)
