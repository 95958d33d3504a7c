-- Counting the places that pass a test.
use Rattle.std.proofs.Common.{◌≡◌, ℕ, zero, suc, ◌+◌, ◌<◌, Bool, cond, not, eqb, List, [], ◌∷◌, length, get_or, refl, ap, ◌∙◌, arith}
use native.Mathlib.Decide.{ℕ_discrete}
use Rattle.std.proofs.lemmas.Bool.{eq-eqb, ne_eqb}
use Rattle.codewords.specs.Bytes.{differing_bytes}
use Rattle.reed_solomon.specs.Code.{differing_from}
use Rattle.transfer.specs.Promise.{count}

abbrev pub bit : Bool → ℕ
bit b = cond b 1 0

pub count_same : (t u : ℕ → Bool) (n : ℕ) → ((j : ℕ) → j < n → t j ≡ u j) → count t n ≡ count u n
unfolding count
count_same t u zero h = refl
count_same t u (suc n) h =
    let a : bit (t n) ≡ bit (u n) = ap bit (h n (omega arith)) in
    let b : count t n ≡ count u n = count_same t u n (λ j l. h j (omega arith)) in
    omega arith

pub count_sum : (t u v : ℕ → Bool) (n : ℕ) → ((j : ℕ) → j < n → bit (t j) ≡ bit (u j) + bit (v j)) → count t n ≡ count u n + count v n
unfolding count
count_sum t u v zero h = refl
count_sum t u v (suc n) h =
    let a : bit (t n) ≡ bit (u n) + bit (v n) = h n (omega arith) in
    let b : count t n ≡ count u n + count v n = count_sum t u v n (λ j l. h j (omega arith)) in
    omega arith

-- The first place apart from the rest.
count_front : (t : ℕ → Bool) (n : ℕ) → count t (suc n) ≡ bit (t 0) + count (λ j. t (suc j)) n
unfolding count
count_front t zero = refl
count_front t (suc n) =
    let b : count t (suc n) ≡ bit (t 0) + count (λ j. t (suc j)) n = count_front t n in
    omega arith

-- Two words differ at a place.
abbrev pub differs : List ℕ → List ℕ → ℕ → Bool
differs u v j = not (eqb (get_or u j 0) (get_or v j 0))

differing_count : (i : ℕ) (u v : List ℕ) → length u ≡ length v → length (differing_from (λ b. b) i u v) ≡ count (differs u v) (length u)
unfolding differing_from count
differing_count i [] v e = refl
differing_count i (a ∷ u) [] e = absurd (omega arith)
differing_count i (a ∷ u) (b ∷ v) e = go (ℕ_discrete a b) (differing_count (suc i) u v (omega arith))
  where
    go : (d : Dec (a ≡ b)) → length (differing_from (λ b. b) (suc i) u v) ≡ count (differs u v) (length u) →
        length (elim d as (λ _. List ℕ) [ yes _ ↦ differing_from (λ b. b) (suc i) u v | no _ ↦ i ∷ differing_from (λ b. b) (suc i) u v ])
        ≡ count (differs (a ∷ u) (b ∷ v)) (suc (length u))
    go (yes s) rest =
        let front = count_front (differs (a ∷ u) (b ∷ v)) (length u) in
        let here : bit (differs (a ∷ u) (b ∷ v) 0) ≡ 0 = ap (λ t. bit (not t)) (eq-eqb a b s) in
        omega arith
    go (no ne) rest =
        let front = count_front (differs (a ∷ u) (b ∷ v)) (length u) in
        let here : bit (differs (a ∷ u) (b ∷ v) 0) ≡ 1 = ap (λ t. bit (not t)) (ne_eqb a b ne) in
        omega arith

-- As many places are named as differ.
pub distance_count : (u v : List ℕ) → length u ≡ 224 → length v ≡ 224 → length (differing_bytes u v) ≡ count (differs u v) 224
distance_count u v hu hv = differing_count 0 u v (omega arith) ∙ ap (count (differs u v)) hu
