-- What a run from beginning to closing leaves of each line.
use Rattle.std.proofs.Common.{◌≡◌, ℕ, ◌+◌, ◌*◌, ◌<◌, ◌≤◌, List, length, get_or, sym, ap, ◌∙◌, subst, inl, inr, arith}
use Rattle.std.proofs.lemmas.List.{places}
use Rattle.std.proofs.lemmas.Bool.{cond-false, cond-true, eq-eqb, ne_eqb}
use Rattle.std.proofs.lemmas.Bool.Decides.{nat_tests}
use Rattle.carriers.specs.Meaning.{Meaning}
use Rattle.layout.specs.Cleared.{cleared}
use Rattle.layout.specs.Words.{received_byte}
use Rattle.receiver.specs.Memory.{begun}
use Rattle.transfer.proofs.Lists.{cut_twice}
use Rattle.transfer.specs.Runs.{Gathered, GatheredLine, line_byte, mark_of, Ran}
use Rattle.transfer.specs.Steps.{after_steps, FirstCopy}
use Rattle.transfer.specs.declared.steps.Step.{Step}
use Rattle.transfer.specs.declared.steps.Step.TheVariants.{Offer}

-- A line has one first sound copy.
first_once : (c : Meaning) (ss b b' : List Step) (n : ℕ) → FirstCopy c ss b n → FirstCopy c ss b' n → b ≡ b'
first_once c ss b b' n p q =
    elim (cut_twice b b' p.copy.rest q.copy.rest (Offer n) (Offer n) (sym p.copy.there ∙ q.copy.there)) [
      | inl same ↦ same
      | inr (inl later) ↦ absurd (q.none_before b (record { rest = later.0; there = later.1; sound = p.copy.sound }))
      | inr (inr earlier) ↦ absurd (p.none_before b' (record { rest = earlier.0; there = earlier.1; sound = q.copy.sound }))
    ]

cleared_length : (m : List ℕ) (k : ℕ) → k ≤ length m → length (cleared m k) ≡ length m
unfolding cleared
cleared_length m k h = grind (arith, places)

cleared_low : (m : List ℕ) (k i : ℕ) → k ≤ length m → i < k → get_or (cleared m k) i 0 ≡ get_or m i 0
unfolding cleared
cleared_low m k i h l = grind (arith, places)

cleared_high : (m : List ℕ) (k i : ℕ) → k ≤ i → i < length m → get_or (cleared m k) i 0 ≡ 0
unfolding cleared
cleared_high m k i h l = grind (arith, places)

begun_fit : (m : List ℕ) → length m ≡ 304644 → begun m ≡ cleared m 304432
begun_fit m s = cond-true _ _ _ (eq-eqb _ _ s)

begun_unfit : (m : List ℕ) → (length m ≡ 304644 → ⊥) → begun m ≡ m
begun_unfit m s = cond-false _ _ _ (ne_eqb _ _ s)

begun_length : (m : List ℕ) → length (begun m) ≡ length m
begun_length m = grind (arith, nat_tests, cleared_length)

module _ (c : Meaning) (ss : List Step) (m m' : List ℕ) (r : Ran c ss (begun m) m') where
  gathered_line : length m ≡ 304644 → (n : ℕ) → n ≤ 211 → GatheredLine c ss m m' n
  gathered_line s n h =
      let size : length (begun m) ≡ 304644 = begun_length m ∙ s in
      let mark : mark_of (begun m) n ≡ 0 =
      ap (λ t. mark_of t n) (begun_fit m s) ∙ cleared_high m 304432 (304432 + n) (omega arith) (omega arith) in
      let low : (j : ℕ) → j < 1436 → line_byte (begun m) n j ≡ line_byte m n j = λ j l.
      ap (λ t. line_byte t n j) (begun_fit m s) ∙ cleared_low m 304432 (1436 * n + j) (omega arith) (omega arith) in
      elim (r.free size n h mark) [
        | inl p ↦
            let B : List Step → Type 0 = λ b. (j : ℕ) → j < 1436 → line_byte m' n j ≡ received_byte ((after_steps c b).word n (2 + j)) in
            record {
              marked = ((λ _. (p.0, p.1.copy)), (λ _. p.2.mark));
              binary = inr p.2.mark;
              first_copy = λ b q. subst B (first_once c ss p.0 b n p.1 q) p.2.bytes;
              has_first = λ _. (p.0, p.1);
              untouched = λ z. absurd (omega (arith, p.2.mark));
            }
        | inr p ↦
            let zero-mark : mark_of m' n ≡ 0 = p.1.mark ∙ mark in
            record {
              marked = ((λ one. absurd (omega arith)), (λ o. absurd (p.0 o.0 o.1)));
              binary = inl zero-mark;
              first_copy = λ b q. absurd (p.0 b q.copy);
              has_first = λ o. absurd (p.0 o.0 o.1);
              untouched = λ _ j l. p.1.bytes j l ∙ low j l;
            }
      ]

  pub gathered : Gathered c ss m m'
  gathered = record {
    size = r.size ∙ begun_length m;
    unfit = λ s. r.unfit (λ t. s (sym (begun_length m) ∙ t)) ∙ begun_unfit m s;
    lines = gathered_line;
  }
