-- The Reed-Solomon code with four check symbols, over any field of characteristic two.
use Rattle.std.specs.Prelude.{◌≡◌, ◌↔◌, List, [], ◌∷◌, reverse, ℕ, suc, ◌<◌, ◌≤◌, length}
use Rattle.std.proofs.Math.Decide.{ℕ_discrete}
use Rattle.galois.specs.Field.{Arithmetic, Laws, power}
use Rattle.reed_solomon.specs.Polynomial.{product, value, linear}

-- The places at which two words of one length differ, rising, where the first place is called i. Two symbols differ where their
-- numbers do.
unfoldable pub differing_from : {A : Type 0} → (A → ℕ) → ℕ → List A → List A → List ℕ
differing_from number i [] v = []
differing_from number i (a ∷ u) [] = []
differing_from number i (a ∷ u) (b ∷ v) = elim (ℕ_discrete (number a) (number b)) [
  | yes _ ↦ differing_from number (suc i) u v
  | no _ ↦ i ∷ differing_from number (suc i) u v
]

-- The places at which they differ, the first symbol's place being 0.
abbrev pub differing : {A : Type 0} → (A → ℕ) → List A → List A → List ℕ
differing number u v = differing_from number 0 u v

-- How many symbols differ.
abbrev pub distance : {A : Type 0} → (A → ℕ) → List A → List A → ℕ
distance number u v = length (differing number u v)

module _ {F : Type 0} (K : Arithmetic F) where
  open K use {alpha as α}

  -- G(X) = (X + 1)(X + α)(X + α²)(X + α³)
  unfoldable pub generator : List F
  generator =
      product K (product K (product K (linear K (power K α 0)) (linear K (power K α 1))) (linear K (power K α 2))) (linear K (power K α 3))

  -- A coded word has n symbols, and the generator divides its polynomial. The first symbol is the highest coefficient, so the
  -- word is the list of coefficients turned round.
  pub record Coded (n : ℕ) (w : List F) : Type 0 where
    pub size : length w ≡ n
    pub quotient : List F
    pub divides : product K quotient generator ≡ reverse w

  -- The k-th syndrome of a word is its polynomial's value at the k-th root of the generator.
  unfoldable pub syndrome : List F → ℕ → F
  syndrome w k = value K (reverse w) (power K α k)

-- A word is coded exactly when its values at the four roots are zero.
abbrev pub CodedBySyndromes : Type 0 → Type 0
CodedBySyndromes F =
    (K : Arithmetic F) → Laws K → (n : ℕ) → 5 ≤ n → n ≤ K.order → (w : List F) → length w ≡ n →
    Coded K n w ↔ ((k : ℕ) → k < 4 → syndrome K w k ≡ K.zero)

-- Two coded words that each differ from one word in at most two symbols are equal.
abbrev pub OneWithinTwo : Type 0 → Type 0
OneWithinTwo F =
    (K : Arithmetic F) → Laws K → (n : ℕ) → 5 ≤ n → n ≤ K.order →
    (u v w : List F) → Coded K n u → Coded K n v → length w ≡ n →
    distance K.number u w ≤ 2 → distance K.number v w ≤ 2 → u ≡ v
