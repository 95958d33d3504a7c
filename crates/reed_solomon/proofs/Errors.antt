-- What the syndromes say of a word with one error or two.
use mathlib.Core.Path.{◌≡◌, refl, sym, ◌∙◌, ap}
use mathlib.Core.Logic.{◌⊎◌, inl, inr, ◌↔◌}
use mathlib.Core.List.{List, [], ◌∷◌}
use Prim.Native.Nat.{ℕ, zero, suc, ◌-◌, ◌<◌, ◌≤◌}
use native.Mathlib.Omega.{arith}
use lib.ListN.{length, length-set}
use Rattle.galois.specs.Field.{Arithmetic, Laws, power}
use Rattle.reed_solomon.specs.Code.{Coded, syndrome}
use Rattle.reed_solomon.specs.Errors.{altered, locator, determinant, quadratic}
use Rattle.reed_solomon.proofs.Ring.{ring, same, plus_cancel, times_nonzero, zero_plus}
use Rattle.reed_solomon.proofs.Clauses.{powers}
use Rattle.reed_solomon.proofs.Moments.{moment, plain, plain_is, place, moment_cons, moment_value}
use Rattle.reed_solomon.proofs.Syndromes.{coded_syndrome}

-- What the syndromes of a word tell that differs from a coded word in one place, of locator x, by e.
pub record OneError {F : Type 0} (K : Arithmetic F) (w : List F) (x e : F) : Type 0 where
  pub sums : (k : ℕ) → k < 4 → syndrome K w k ≡ K.times e (power K x k)
  pub singular : determinant K w ≡ K.zero

-- And in two places, of locators x and y, by a and b.
pub record TwoErrors {F : Type 0} (K : Arithmetic F) (w : List F) (x y a b : F) : Type 0 where
  pub sums : (k : ℕ) → k < 4 → syndrome K w k ≡ K.plus (K.times a (power K x k)) (K.times b (power K y k))
  pub regular : ¬ (determinant K w ≡ K.zero)
  pub roots : (z : F) → (quadratic K w z ≡ K.zero) ↔ ((z ≡ x) ⊎ (z ≡ y))
  pub first : K.times a (K.plus x y) ≡ K.plus (K.times (syndrome K w 0) y) (syndrome K w 1)
  pub second : b ≡ K.plus (syndrome K w 0) a

module _ {F : Type 0} (K : Arithmetic F) (laws : Laws K) where
  open K use {zero as 𝟘, one as 𝟙, plus as ◌+◌, times as ◌*◌, alpha as α}

  infixl 60 ◌+◌
  infixl 70 ◌*◌
  pub length_altered : (w : List F) (i : ℕ) (e : F) → length (altered K w i e) ≡ length w
  unfolding altered
  length_altered w i e = length-set w i _

  pub altered_here : (x : F) (w : List F) (e : F) → altered K (x ∷ w) 0 e ≡ (x + e) ∷ w
  unfolding altered
  altered_here x w e = refl

  pub altered_next : (x : F) (w : List F) (i : ℕ) (e : F) → altered K (x ∷ w) (suc i) e ≡ x ∷ altered K w i e
  unfolding altered
  altered_next x w i e = refl

  place_altered : (w : List F) (i : ℕ) (e : F) → place K laws (altered K w i e) ≡ place K laws w
  unfolding place
  place_altered w i e = ap (power K α) (length_altered w i e)

  locator_here : (x : F) (w : List F) → locator K (length (x ∷ w)) 0 ≡ place K laws w
  unfolding place locator
  locator_here x w = ap (power K α) (omega arith)

  locator_next : (x : F) (w : List F) (i : ℕ) → locator K (length (x ∷ w)) (suc i) ≡ locator K (length w) i
  unfolding locator
  locator_next x w i = ap (power K α) (omega arith)

  moment_altered : (k : ℕ) (w : List F) (i : ℕ) (e : F) → i < length w →
      moment K laws (plain K laws) k (altered K w i e) ≡ moment K laws (plain K laws) k w + e * power K (locator K (length w) i) k
  moment_altered k [] i e h = absurd (omega arith)
  moment_altered k (x ∷ w) zero e h = rw (altered_here, locator_here) (simp (moment_cons, plain_is, ring))
  moment_altered k (x ∷ w) (suc i) e h =
      rw (altered_next, locator_next) (simp (moment_cons, plain_is, place_altered, moment_altered k w i e (omega arith), ring))

  -- an error adds its value times a power of its locator
  pub syndrome_altered : (n k : ℕ) (w : List F) (i : ℕ) (e : F) → length w ≡ n → i < n →
      syndrome K (altered K w i e) k ≡ syndrome K w k + e * power K (locator K n i) k
  unfolding syndrome
  syndrome_altered n k w i e size h =
      rw (← size, ← moment_value K laws k w, ← moment_value K laws k (altered K w i e)) (moment_altered k w i e (omega arith))

  locator_injective : (n i j : ℕ) → n ≤ K.order → i < n → j < n → locator K n i ≡ locator K n j → i ≡ j
  unfolding locator
  locator_injective n i j short hi hj e =
      let same_power : n - suc i ≡ n - suc j = laws.powers_differ (n - suc i) (n - suc j) (omega arith) (omega arith) e in omega arith

  pub determinant_clause : (w : List F) → determinant K w ≡ syndrome K w 0 * syndrome K w 2 + syndrome K w 1 * syndrome K w 1
  unfolding determinant
  determinant_clause w = refl

  pub quadratic_clause : (w : List F) (x : F) → quadratic K w x ≡
      determinant K w * (x * x)
      + (syndrome K w 0 * syndrome K w 3 + syndrome K w 1 * syndrome K w 2) * x
      + (syndrome K w 1 * syndrome K w 3 + syndrome K w 2 * syndrome K w 2)
  unfolding quadratic
  quadratic_clause w x = refl

  -- from the sums alone: one term
  module _ (w : List F) (x e : F) (sums : (k : ℕ) → k < 4 → syndrome K w k ≡ e * power K x k) where
    singular : determinant K w ≡ 𝟘
    singular = determinant_clause w ∙ rw (sums 0 (omega arith), sums 1 (omega arith), sums 2 (omega arith)) (simp (powers, ring))

  -- and two
  module _ (w : List F) (x y a b : F) (sums : (k : ℕ) → k < 4 → syndrome K w k ≡ a * power K x k + b * power K y k) where
    pub determinant_is : determinant K w ≡ a * b * ((x + y) * (x + y))
    determinant_is = determinant_clause w ∙ rw (sums 0 (omega arith), sums 1 (omega arith), sums 2 (omega arith)) (simp (powers, ring))

    quadratic_is : (z : F) → quadratic K w z ≡ determinant K w * ((z + x) * (z + y))
    quadratic_is z =
        quadratic_clause w z ∙ rw (determinant_is, sums 0 (omega arith), sums 1 (omega arith), sums 2 (omega arith), sums 3 (omega arith)) (simp (powers, ring))

    first_value : a * (x + y) ≡ syndrome K w 0 * y + syndrome K w 1
    first_value = rw (sums 0 (omega arith), sums 1 (omega arith)) (simp (powers, ring))

    second_value : b ≡ syndrome K w 0 + a
    second_value = rw (sums 0 (omega arith)) (simp (powers, ring))

    module _ (na : ¬ (a ≡ 𝟘)) (nb : ¬ (b ≡ 𝟘)) (nxy : ¬ (x ≡ y)) where
      regular : ¬ (determinant K w ≡ 𝟘)
      regular e = times_nonzero K laws _ _ (times_nonzero K laws a b na nb) (times_nonzero K laws _ _ far far) (sym determinant_is ∙ e)
        where
          far : ¬ (x + y ≡ 𝟘)
          far h = nxy (plus_cancel K laws x y h)

      roots : (z : F) → (quadratic K w z ≡ 𝟘) ↔ ((z ≡ x) ⊎ (z ≡ y))
      roots z = (only, are)
        where
          only : quadratic K w z ≡ 𝟘 → (z ≡ x) ⊎ (z ≡ y)
          only e = elim (same K laws z x) [
            | yes is ↦ inl is
            | no nx ↦ elim (same K laws z y) [
              | yes is ↦ inr is
              | no ny ↦ absurd (times_nonzero K laws _ _ regular (times_nonzero K laws _ _ (λ h. nx (plus_cancel K laws z x h)) (λ h. ny (plus_cancel K laws z y h)))
                  (sym (quadratic_is z) ∙ e))
            ]
          ]

          are : (z ≡ x) ⊎ (z ≡ y) → quadratic K w z ≡ 𝟘
          are (inl is) = quadratic_is z ∙ rw is (simp ring)
          are (inr is) = quadratic_is z ∙ rw is (simp ring)

pub finds_one : {F : Type 0} (K : Arithmetic F) → Laws K → (n : ℕ) → 5 ≤ n → n ≤ K.order →
    (c : List F) → Coded K n c → (i : ℕ) → i < n → (e : F) → OneError K (altered K c i e) (locator K n i) e
finds_one K laws n five short c coded i h e = record { sums = sums; singular = singular K laws _ _ e sums }
  where
    sums : (k : ℕ) → k < 4 → syndrome K (altered K c i e) k ≡ K.times e (power K (locator K n i) k)
    sums k small = syndrome_altered K laws n k c i e coded.size h ∙ rw (coded_syndrome K laws n c coded k small) (zero_plus K laws _)

pub finds_two : {F : Type 0} (K : Arithmetic F) → Laws K → (n : ℕ) → 5 ≤ n → n ≤ K.order →
    (c : List F) → Coded K n c → (i j : ℕ) → i < n → j < n → ¬ (i ≡ j) → (a b : F) → ¬ (a ≡ K.zero) → ¬ (b ≡ K.zero) →
    TwoErrors K (altered K (altered K c i a) j b) (locator K n i) (locator K n j) a b
finds_two K laws n five short c coded i j hi hj nij a b na nb =
    record {
      sums = sums;
      regular = regular K laws _ _ _ a b sums na nb far;
      roots = roots K laws _ _ _ a b sums na nb far;
      first = first_value K laws _ _ _ a b sums;
      second = second_value K laws _ _ _ a b sums;
    }
  where
    far : ¬ (locator K n i ≡ locator K n j)
    far e = nij (locator_injective K laws n i j short hi hj e)

    sums : (k : ℕ) → k < 4 → syndrome K (altered K (altered K c i a) j b) k
        ≡ K.plus (K.times a (power K (locator K n i) k)) (K.times b (power K (locator K n j) k))
    sums k small =
        syndrome_altered K laws n k (altered K c i a) j b (length_altered K laws c i a ∙ coded.size) hj
        ∙ ap (λ s. K.plus s (K.times b (power K (locator K n j) k))) ((finds_one K laws n five short c coded i hi a).sums k small)
