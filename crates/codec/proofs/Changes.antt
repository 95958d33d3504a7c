-- A word and what it becomes when one or two symbols are altered.
use Rattle.std.proofs.Common.{◌≡◌, ℕ, zero, suc, ◌+◌, ◌<◌, List, [], ◌∷◌, length, take, sym, refl, ap, ◌∙◌, arith}
use native.Mathlib.Decide.{ℕ_discrete}
use Rattle.galois.specs.Field.{Arithmetic, Laws}
use Rattle.reed_solomon.specs.Code.{differing_from, differing}
use Rattle.reed_solomon.specs.Errors.{altered}
use Rattle.reed_solomon.proofs.Ring.{plus_left, plus_zero}
use Rattle.reed_solomon.proofs.Errors.{altered_here, altered_next}
use Rattle.codec.specs.declared.record.MendRecord.{MendRecord}
use Rattle.codec.specs.Mend.{places}

module _ {F : Type 0} (K : Arithmetic F) (laws : Laws K) where
  open K use {zero as 𝟘, plus as ◌⊕◌}

  infixl 60 ◌⊕◌
  -- what one pair of symbols adds to the places that differ
  from_same : (o : ℕ) (x : F) (u v : List F) → differing_from K.number o (x ∷ u) (x ∷ v) ≡ differing_from K.number (suc o) u v
  unfolding differing_from
  from_same o x u v = go (ℕ_discrete (K.number x) (K.number x))
    where
      go : (d : Dec (K.number x ≡ K.number x)) →
          (elim d as (λ _. List ℕ) [ yes _ ↦ differing_from K.number (suc o) u v | no _ ↦ o ∷ differing_from K.number (suc o) u v ])
          ≡ differing_from K.number (suc o) u v
      go (yes e) = refl
      go (no ne) = absurd (ne refl)

  from_other : (o : ℕ) (x y : F) (u v : List F) → ¬ (x ≡ y) →
      differing_from K.number o (x ∷ u) (y ∷ v) ≡ o ∷ differing_from K.number (suc o) u v
  unfolding differing_from
  from_other o x y u v apart = go (ℕ_discrete (K.number x) (K.number y))
    where
      go : (d : Dec (K.number x ≡ K.number y)) →
          (elim d as (λ _. List ℕ) [ yes _ ↦ differing_from K.number (suc o) u v | no _ ↦ o ∷ differing_from K.number (suc o) u v ])
          ≡ o ∷ differing_from K.number (suc o) u v
      go (yes e) = absurd (apart (laws.same_number x y e))
      go (no ne) = refl

  moved : (x e : F) → ¬ (e ≡ 𝟘) → ¬ (x ⊕ e ≡ x)
  moved x e ne h = ne (plus_left K laws e 𝟘 x (h ∙ sym (plus_zero K laws x)))

  from_none : (o : ℕ) (w : List F) → differing_from K.number o w w ≡ []
  unfolding differing_from
  from_none o [] = refl
  from_none o (x ∷ w) = from_same o x w w ∙ from_none (suc o) w

  from_one : (o p : ℕ) (w : List F) (i : ℕ) (e : F) → p ≡ o + i → i < length w → ¬ (e ≡ 𝟘) →
      differing_from K.number o (altered K w i e) w ≡ p ∷ []
  from_one o p [] i e at h ne = absurd (omega arith)
  from_one o p (x ∷ w) zero e at h ne =
      let here : o ≡ p = omega arith in
      ap (λ u. differing_from K.number o u (x ∷ w)) (altered_here K laws x w e)
      ∙ from_other o (x ⊕ e) x w w (moved x e ne) ∙ (λ j. here j ∷ from_none (suc o) w j)
  from_one o p (x ∷ w) (suc i) e at h ne =
      ap (λ u. differing_from K.number o u (x ∷ w)) (altered_next K laws x w i e)
      ∙ from_same o x (altered K w i e) w ∙ from_one (suc o) p w i e (omega arith) (omega arith) ne

  from_two : (o p q : ℕ) (w : List F) (i j : ℕ) (a b : F) → p ≡ o + i → q ≡ o + j → i < j → j < length w → ¬ (a ≡ 𝟘) → ¬ (b ≡ 𝟘) →
      differing_from K.number o (altered K (altered K w i a) j b) w ≡ p ∷ q ∷ []
  from_two o p q [] i j a b at also ij h na nb = absurd (omega arith)
  from_two o p q (x ∷ w) i zero a b at also ij h na nb = absurd (omega arith)
  from_two o p q (x ∷ w) zero (suc j) a b at also ij h na nb =
      let here : o ≡ p = omega arith in
      ap (λ u. differing_from K.number o u (x ∷ w)) (ap (λ u. altered K u (suc j) b) (altered_here K laws x w a) ∙ altered_next K laws (x ⊕ a) w j b)
      ∙ from_other o (x ⊕ a) x (altered K w j b) w (moved x a na)
      ∙ (λ k. here k ∷ from_one (suc o) q w j b (omega arith) (omega arith) nb k)
  from_two o p q (x ∷ w) (suc i) (suc j) a b at also ij h na nb =
      ap (λ u. differing_from K.number o u (x ∷ w)) (ap (λ u. altered K u (suc j) b) (altered_next K laws x w i a) ∙ altered_next K laws x (altered K w i a) j b)
      ∙ from_same o x (altered K (altered K w i a) j b) w
      ∙ from_two (suc o) p q w i j a b (omega arith) (omega arith) (omega arith) (omega arith) na nb

  pub differing_none : (w : List F) → differing K.number w w ≡ []
  differing_none w = from_none 0 w

  pub differing_one : (w : List F) (i : ℕ) (e : F) → i < length w → ¬ (e ≡ 𝟘) → differing K.number (altered K w i e) w ≡ i ∷ []
  differing_one w i e h ne = from_one 0 i w i e (omega arith) h ne

  pub differing_two : (w : List F) (i j : ℕ) (a b : F) → i < j → j < length w → ¬ (a ≡ 𝟘) → ¬ (b ≡ 𝟘) →
      differing K.number (altered K (altered K w i a) j b) w ≡ i ∷ j ∷ []
  differing_two w i j a b ij h na nb = from_two 0 i j w i j a b (omega arith) (omega arith) ij h na nb

-- what a record of each count names
module _ (m : MendRecord) where
  pub names_none : m.count ≡ 0 → places m ≡ []
  names_none c = ap (λ n. take n (m.first ∷ m.second ∷ [])) c

  pub names_one : (p : ℕ) → m.count ≡ 1 → m.first ≡ p → places m ≡ p ∷ []
  names_one p c f = (λ i. take (c i) (f i ∷ m.second ∷ []))

  pub names_two : (p q : ℕ) → m.count ≡ 2 → m.first ≡ p → m.second ≡ q → places m ≡ p ∷ q ∷ []
  names_two p q c f s = (λ i. take (c i) (f i ∷ s i ∷ []))
