-- A word differs from at most one coded word in at most two places.
use mathlib.Core.Path.{◌≡◌, sym, ◌∙◌, ap}
use mathlib.Core.Logic.{inl, inr}
use mathlib.Core.List.{List, [], ◌∷◌}
use Prim.Native.Nat.{ℕ, ◌+◌, ◌<◌, ◌≤◌}
use native.Mathlib.Omega.{arith}
use lib.ListN.{length}
use Rattle.galois.specs.Field.{Arithmetic, Laws}
use Rattle.reed_solomon.specs.Code.{distance, syndrome, OneWithinTwo}
use Rattle.reed_solomon.proofs.Moments.{differ, nil_distance, moment_value, plain, differ_cases, distance_cons, agree}
use Rattle.reed_solomon.proofs.Ring.{times_one, times_zero}
use Rattle.reed_solomon.proofs.Syndromes.{coded_syndrome}

module _ {F : Type 0} (K : Arithmetic F) (laws : Laws K) where
  differ_triangle : (a b c : F) → differ K laws a b ≤ differ K laws a c + differ K laws b c
  differ_triangle a b c =
      elim (differ_cases K laws a b) [
        | inl d ↦ omega arith
        | inr d ↦ elim (differ_cases K laws a c) [
          | inr e ↦ omega arith
          | inl e ↦ elim (differ_cases K laws b c) [
            | inr f ↦ omega arith
            | inl f ↦ absurd (d.0 (e.0 ∙ sym f.0))
          ]
        ]
      ]

  triangle : (u v w : List F) → length u ≡ length w → length v ≡ length w → distance K.number u v ≤ distance K.number u w + distance K.number v w
  triangle [] [] [] hu hv = omega (arith, nil_distance K laws)
  triangle [] [] (c ∷ w) hu hv = absurd (omega arith)
  triangle [] (b ∷ v) [] hu hv = absurd (omega arith)
  triangle [] (b ∷ v) (c ∷ w) hu hv = absurd (omega arith)
  triangle (a ∷ u) [] [] hu hv = absurd (omega arith)
  triangle (a ∷ u) [] (c ∷ w) hu hv = absurd (omega arith)
  triangle (a ∷ u) (b ∷ v) [] hu hv = absurd (omega arith)
  triangle (a ∷ u) (b ∷ v) (c ∷ w) hu hv =
      omega (arith, distance_cons K laws a b u v, distance_cons K laws a c u w, distance_cons K laws b c v w, differ_triangle a b c, triangle u v w (omega arith) (omega arith))

  -- in a field of one element the powers of α do not differ
  one_not_zero : (n : ℕ) → 5 ≤ n → n ≤ K.order → ¬ (K.one ≡ K.zero)
  one_not_zero n five short e =
      let all : (x : F) → x ≡ K.zero = λ x. sym (times_one K laws x) ∙ ap (K.times x) e ∙ times_zero K laws x in
      let z : ◌≡◌ {A = ℕ} 0 1 = laws.powers_differ 0 1 (omega arith) (omega arith) (all _ ∙ sym (all _)) in omega arith

  pub same_syndromes : (n : ℕ) → 5 ≤ n → (u v : List F) → length u ≡ n → length v ≡ n → n ≤ K.order → distance K.number u v ≤ 4 →
      ((k : ℕ) → k < 4 → syndrome K u k ≡ syndrome K v k) → u ≡ v
  unfolding syndrome plain
  same_syndromes n five u v hu hv short near sums =
      agree K laws n short u v 4 (plain K laws) (omega arith) (omega arith) (λ j h. one_not_zero n five short) near
      (λ k h. moment_value K laws k u ∙ sums k h ∙ sym (moment_value K laws k v))

pub one_within_two : {F : Type 0} → OneWithinTwo F
one_within_two K laws n five short u v w cu cv hw nu nv =
    same_syndromes K laws n five u v cu.size cv.size short
    (omega (arith, triangle K laws u v w (cu.size ∙ sym hw) (cv.size ∙ sym hw)))
    (λ k h. coded_syndrome K laws n u cu k h ∙ sym (coded_syndrome K laws n v cv k h))
