-- Two words that differ in at most m places, and whose first m power sums agree, are equal.
use mathlib.Core.Path.{◌≡◌, refl, ap, ap₂}
use mathlib.Core.Logic.{◌⊎◌, inl, inr}
use mathlib.Core.List.{List, [], ◌∷◌, reverse, reverse-cons}
use Prim.Native.Nat as N
use Prim.Native.Nat.{ℕ, suc, ◌<◌, ◌≤◌}
use native.Mathlib.Omega.{arith}
use native.Mathlib.Decide.{ℕ_discrete}
use lib.ListN.{length, length-reverse}
use Rattle.galois.specs.Field.{Arithmetic, Laws, power}
use Rattle.reed_solomon.specs.Polynomial.{value}
use Rattle.reed_solomon.specs.Code.{differing_from, distance}
use Rattle.reed_solomon.proofs.Ring.{ring, plus_cancel, plus_both, plus_left, times_both, times_nonzero}
use Rattle.reed_solomon.proofs.Clauses.{clauses}
use Rattle.reed_solomon.proofs.Values.{power_swap, value_append}

module _ {F : Type 0} (K : Arithmetic F) (laws : Laws K) where
  open K use {zero as 𝟘, one as 𝟙, plus as ◌+◌, times as ◌*◌, alpha as α}

  infixl 60 ◌+◌
  infixl 70 ◌*◌
  -- the locator of the first symbol of a word that goes on with w
  unfoldable pub place : List F → F
  place w = power K α (length w)

  place_is : (w : List F) → place w ≡ power K α (length w)
  unfolding place
  place_is w = refl

  -- the power sum of the symbols, each weighed by g at its locator
  unfoldable pub moment : (F → F) → ℕ → List F → F
  moment g k [] = 𝟘
  moment g k (e ∷ w) = e * g (place w) * power K (place w) k + moment g k w

  pub moment_nil : (g : F → F) (k : ℕ) → moment g k [] ≡ 𝟘
  unfolding moment
  moment_nil g k = refl

  pub moment_cons : (g : F → F) (k : ℕ) (e : F) (w : List F) → moment g k (e ∷ w) ≡ e * g (place w) * power K (place w) k + moment g k w
  unfolding moment
  moment_cons g k e w = refl

  -- one more weight, which is zero at x
  without : F → (F → F) → F → F
  without x g z = g z * (z + x)

  without_is : (x : F) (g : F → F) (z : F) → without x g z ≡ g z * (z + x)
  unfolding without
  without_is x g z = refl

  ruleset moments = (moment_nil, moment_cons, without_is, clauses)

  moment_without : (x : F) (g : F → F) (k : ℕ) (w : List F) → moment (without x g) k w ≡ moment g (suc k) w + x * moment g k w
  moment_without x g k [] = simp (moments, ring)
  moment_without x g k (e ∷ w) = simp (moments, moment_without x g k w, ring)

  -- the weight at the first symbol's own locator leaves nothing of it
  moment_rest : (g : F → F) (k : ℕ) (e : F) (w : List F) →
      moment (without (place w) g) k w ≡ moment g (suc k) (e ∷ w) + place w * moment g k (e ∷ w)
  moment_rest g k e w = simp (moments, moment_without, ring)

  unfoldable pub plain : F → F
  plain z = 𝟙

  pub plain_is : (z : F) → plain z ≡ 𝟙
  unfolding plain
  plain_is z = refl

  pub moment_value : (k : ℕ) (w : List F) → moment plain k w ≡ value K (reverse w) (power K α k)
  moment_value k [] = simp moments
  moment_value k (e ∷ w) = simp (moments, plain_is, place_is, reverse-cons, value_append, moment_value k w, length-reverse, power_swap K laws α k (length w), ring)

  -- what two symbols add to the distance
  unfoldable pub differ : F → F → ℕ
  differ a b = elim (ℕ_discrete (K.number a) (K.number b)) [ yes _ ↦ 0 | no _ ↦ 1 ]

  -- whether two symbols differ, with what that counts
  pub differ_cases : (a b : F) → ((a ≡ b) × (differ a b ≡ 0)) ⊎ ((¬ (a ≡ b)) × (differ a b ≡ 1))
  unfolding differ
  differ_cases a b = go (ℕ_discrete (K.number a) (K.number b))
    where
      go : (d : Dec (K.number a ≡ K.number b)) → ((a ≡ b) × ((elim d as (λ _. ℕ) [ yes _ ↦ 0 | no _ ↦ 1 ]) ≡ 0)) ⊎ ((¬ (a ≡ b)) × ((elim d as (λ _. ℕ) [ yes _ ↦ 0 | no _ ↦ 1 ]) ≡ 1))
      go (yes e) = inl (laws.same_number a b e, refl)
      go (no ne) = inr ((λ e. ne (ap K.number e)), refl)

  -- the name of the first place does not count
  length_from : (i j : ℕ) (u v : List F) → length (differing_from K.number i u v) ≡ length (differing_from K.number j u v)
  unfolding differing_from
  length_from i j [] v = refl
  length_from i j (a ∷ u) [] = refl
  length_from i j (a ∷ u) (b ∷ v) = go (ℕ_discrete (K.number a) (K.number b)) (length_from (suc i) (suc j) u v)
    where
      go : (d : Dec (K.number a ≡ K.number b)) →
          length (differing_from K.number (suc i) u v) ≡ length (differing_from K.number (suc j) u v) →
          length (elim d as (λ _. List ℕ) [ yes _ ↦ differing_from K.number (suc i) u v | no _ ↦ i ∷ differing_from K.number (suc i) u v ])
          ≡ length (elim d as (λ _. List ℕ) [ yes _ ↦ differing_from K.number (suc j) u v | no _ ↦ j ∷ differing_from K.number (suc j) u v ])
      go (yes e) rest = rest
      go (no ne) rest = ap suc rest

  pub nil_distance : distance {A = F} K.number [] [] ≡ 0
  unfolding differing_from
  nil_distance = refl

  pub distance_cons : (a b : F) (u v : List F) → distance K.number (a ∷ u) (b ∷ v) ≡ N.◌+◌ (differ a b) (distance K.number u v)
  unfolding differing_from differ
  distance_cons a b u v = go (ℕ_discrete (K.number a) (K.number b))
    where
      go : (d : Dec (K.number a ≡ K.number b)) →
          length (elim d as (λ _. List ℕ) [ yes _ ↦ differing_from K.number 1 u v | no _ ↦ 0 ∷ differing_from K.number 1 u v ])
          ≡ N.◌+◌ (elim d as (λ _. ℕ) [ yes _ ↦ 0 | no _ ↦ 1 ]) (distance K.number u v)
      go (yes e) = omega (arith, length_from 1 0 u v)
      go (no ne) = omega (arith, length_from 1 0 u v)

  place_same : (u v : List F) → length u ≡ length v → place u ≡ place v
  unfolding place
  place_same u v e = ap (power K α) e

  module _ (n : ℕ) (short : n ≤ K.order) where
    without_nonzero : (g : F → F) (u : List F) → length u < n → ((j : ℕ) → j < suc (length u) → ¬ (g (power K α j) ≡ 𝟘)) →
        (j : ℕ) → j < length u → ¬ (without (place u) g (power K α j) ≡ 𝟘)
    unfolding place without
    without_nonzero g u fits alive j h =
        times_nonzero K laws _ _ (alive j (omega arith))
        (λ e. let same_power : j ≡ length u = laws.powers_differ j (length u) (omega arith) (omega arith) (plus_cancel K laws _ _ e) in omega arith)

    pub agree : (u v : List F) (m : ℕ) (g : F → F) → length u ≡ length v → length u ≤ n →
        ((j : ℕ) → j < length u → ¬ (g (power K α j) ≡ 𝟘)) →
        distance K.number u v ≤ m → ((k : ℕ) → k < m → moment g k u ≡ moment g k v) → u ≡ v
    agree [] [] m g same_length fits alive near sums = refl
    agree [] (b ∷ v) m g same_length fits alive near sums = absurd (omega arith)
    agree (a ∷ u) [] m g same_length fits alive near sums = absurd (omega arith)
    agree (a ∷ u) (b ∷ v) m g same_length fits alive near sums =
        elim (differ_cases a b) [
          | inl d ↦
              ap₂ ◌∷◌ d.0 (agree u v m g rest (omega arith) (λ j h. alive j (omega arith)) (omega (arith, distance_cons a b u v))
              (λ k h. plus_left K laws _ _ (b * g (place v) * power K (place v) k) (cc (here, sums k h, moment_cons g k a u, moment_cons g k b v))))
          | inr d ↦
              let near' : N.◌+◌ 1 (distance K.number u v) ≤ m = omega (arith, distance_cons a b u v) in
              let tails : u ≡ v = agree u v (N.◌-◌ m 1) (without (place u) g) rest (omega arith) (without_nonzero g u fits alive) (omega arith)
              (λ k h. cc (here, sums k (omega arith), sums (suc k) (omega arith), moment_rest g k a u, moment_rest g k b v)) in
              let heads : a * g (place u) * power K (place u) 0 ≡ b * g (place u) * power K (place u) 0 =
              plus_both K laws _ _ (moment g 0 u) (cc (here, sums 0 (omega arith), moment_cons g 0 a u, moment_cons g 0 b v)) in
              absurd (d.0 (times_both K laws a b (g (place u)) (unfold place in alive (length u) (omega arith)) (simp (clauses, ring) at heads)))
        ]
      where
        rest : length u ≡ length v
        rest = omega arith

        here : place u ≡ place v
        here = place_same u v rest
