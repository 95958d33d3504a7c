-- Taking a line: its bytes stand in the place of those that the memory had, and its mark is set.
use Rattle.std.proofs.Common.{◌≡◌, ℕ, ◌+◌, ◌-◌, ◌*◌, ◌<◌, ◌≤◌, List, length, get_or, set, sym, ap, ◌∙◌, ⊎_elim, arith, get_or-set_other, get_or-set_same}
use native.Mathlib.Decide.{ℕ_discrete}
use Rattle.std.proofs.lemmas.Bool.{cases_lt}
use Rattle.std.proofs.lemmas.Bool.Decides.{nat_tests}
use Rattle.std.proofs.lemmas.List.{places}
use borrow.Rule.Slice.PartMut.{put_mid}
use Rattle.layout.specs.Words.{received_byte}
use Rattle.receiver.specs.Offers.{taken_byte}

module _ (m row : List ℕ) (word : ℕ → ℕ) (n k : ℕ) (size : length m ≡ 304644) (low : n ≤ 211) (long : length row ≡ 1436) (all : k ≡ 1436)
    (is : (j : ℕ) → j < 1436 → get_or row j 0 ≡ received_byte (word (2 + j))) where
  abbrev now : List ℕ
  now = put_mid (1436 * n) k m row

  before : (i : ℕ) → i < 1436 * n → get_or now i 0 ≡ get_or m i 0
  before i h = grind (arith, places)

  within : (j : ℕ) → j < 1436 → get_or now (1436 * n + j) 0 ≡ received_byte (word (2 + j))
  within j h = let here = is j h in grind (arith, places)

  behind : (i : ℕ) → 1436 * n + 1436 ≤ i → get_or now i 0 ≡ get_or m i 0
  behind i h = grind (arith, places)

  now_length : length now ≡ 304644
  now_length = grind (arith, places)

  pub taken : (i : ℕ) → get_or (set now (304432 + n) 1) i 0 ≡ taken_byte m word n i
  taken i =
      elim (ℕ_discrete i (304432 + n)) [
        | yes e ↦
            ap (λ x. get_or (set now (304432 + n) 1) x 0) e ∙ get_or-set_same now (304432 + n) 1 0 (omega (arith, now_length)) ∙ grind (arith, nat_tests)
        | no ne ↦
            get_or-set_other now (304432 + n) i 1 0 ne
            ∙ ⊎_elim
            (λ (l : i < 1436 * n). before i l ∙ grind (arith, nat_tests))
            (λ (h : 1436 * n ≤ i). ⊎_elim
            (λ (l : i < 1436 * n + 1436).
            let at : 1436 * n + (i - 1436 * n) ≡ i = omega arith in
            ap (λ x. get_or now x 0) (sym at) ∙ within (i - 1436 * n) (omega arith) ∙ grind (arith, nat_tests))
            (λ (g : 1436 * n + 1436 ≤ i). behind i g ∙ grind (arith, nat_tests))
            (cases_lt i (1436 * n + 1436)))
            (cases_lt i (1436 * n))
      ]
