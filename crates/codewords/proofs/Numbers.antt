-- Words and the numbers of their symbols.
use Rattle.std.proofs.Common.{◌≡◌, ℕ, suc, ◌<◌, ◌≤◌, List, [], ◌∷◌, map, length, get_or, take, sym, refl, ap, ◌∙◌, subst, ap₂, arith}
use native.Mathlib.Decide.{ℕ_discrete}
use Rattle.std.proofs.lemmas.List.{get_or-take, get_or-map, length-take-le}
use Rattle.galois.specs.Field.{Arithmetic, Laws}
use Rattle.reed_solomon.specs.Code.{differing_from}

module _ {X : Type 0} (f : X → ℕ) where
  -- words differ where their numbers do
  pub differing_numbers : (o : ℕ) (u w : List X) → differing_from (λ b. b) o (map f u) (map f w) ≡ differing_from f o u w
  unfolding differing_from
  differing_numbers o [] w = refl
  differing_numbers o (a ∷ u) [] = refl
  differing_numbers o (a ∷ u) (b ∷ w) = go (ℕ_discrete (f a) (f b)) (differing_numbers (suc o) u w)
    where
      go : (d : Dec (f a ≡ f b)) → differing_from (λ b. b) (suc o) (map f u) (map f w) ≡ differing_from f (suc o) u w →
          (elim d as (λ _. List ℕ) [ yes _ ↦ differing_from (λ b. b) (suc o) (map f u) (map f w) | no _ ↦ o ∷ differing_from (λ b. b) (suc o) (map f u) (map f w) ])
          ≡ (elim d as (λ _. List ℕ) [ yes _ ↦ differing_from f (suc o) u w | no _ ↦ o ∷ differing_from f (suc o) u w ])
      go (yes _) rest = rest
      go (no _) rest = ap (λ l. o ∷ l) rest

module _ {F : Type 0} (K : Arithmetic F) (laws : Laws K) where
  pub same_numbers : (u w : List F) → map K.number u ≡ map K.number w → u ≡ w
  same_numbers [] [] e = refl
  same_numbers [] (b ∷ w) e = absurd (omega (arith, ap length e))
  same_numbers (a ∷ u) [] e = absurd (omega (arith, ap length e))
  same_numbers (a ∷ u) (b ∷ w) e =
      let heads : K.number a ≡ K.number b = cc in
      let tails : map K.number u ≡ map K.number w = cc in
      ap₂ ◌∷◌ (laws.same_number a b heads) (same_numbers u w tails)

  -- the numbers of symbols are below the field's size
  pub front_below : (word : List F) (bytes : List ℕ) (i : ℕ) → i ≤ length word → map K.number (take i word) ≡ take i bytes →
      (k : ℕ) → k < i → get_or bytes k 0 < K.size
  front_below word bytes i h e k below =
      let inside : k < length (take i word) = omega (arith, length-take-le i word h) in
      let is : K.number (get_or (take i word) k K.zero) ≡ get_or bytes k 0 =
      sym (get_or-map K.number (take i word) k K.zero 0 inside) ∙ ap (λ l. get_or l k 0) e ∙ get_or-take i bytes k 0 below in
      subst (λ b. b < K.size) is (laws.number_below (get_or (take i word) k K.zero))
