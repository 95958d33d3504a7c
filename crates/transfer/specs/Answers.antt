-- What each step of a run answers.
use Rattle.std.specs.Prelude.{◌≡◌, ℕ, ◌<◌, ◌≤◌, cond, List, length, take, Ok, Err, Result, ◌≢◌, slice_index_or}
use Rattle.carriers.specs.Meaning.{has, lacking, Meaning, write_at}
use Rattle.denial.specs.Denials.{denied}
use Rattle.denial.specs.declared.Denial.{Denial}
use Rattle.denial.specs.declared.Reason.TheVariants.{Held, Memory, Off}
use Rattle.denial.specs.declared.Layer.TheVariants.{Field}
use Rattle.receiver.specs.Offers.{by_fault, fault}
use Rattle.transfer.specs.Runs.{Ran}
use Rattle.transfer.specs.Steps.{after_steps, OfferedSound, step_at}
use Rattle.transfer.specs.declared.steps.Step.{Step}
use Rattle.transfer.specs.declared.steps.Step.TheVariants.{Offer, Write}

-- An answer: nothing more is said, or why the step was refused.
abbrev pub Answer : Type 0
Answer = Result (Unit {0}) Denial

-- A step that came after the steps `before` was answered r by the memory that these left of m.
pub record AnsweredIn (c : Meaning) (before : List Step) (m : List ℕ) (x : Step) (r : Answer) : Type 0 where
  pub memory : List ℕ
  pub ran : Ran c before m memory
  pub answer : r ≡ step_at memory (after_steps c before) x

-- The answers to the first of the steps, as many as there is room for; other places are as they were.
pub record AnswersIn (c : Meaning) (steps : List Step) (m : List ℕ) (was now : List Answer) : Type 0 where
  pub size : length now ≡ length was
  pub each : (i : ℕ) → i < length steps → i < length now → AnsweredIn c (take i steps) m (slice_index_or steps i (Offer 0)) (slice_index_or now i (Ok tt))
  pub others : (i : ℕ) → length steps ≤ i → slice_index_or now i (Ok tt) ≡ slice_index_or was i (Ok tt)

-- What an offer of line n is answered where the line was not taken before.
abbrev pub offered_now : Meaning → ℕ → Answer
offered_now c n = cond (has c n 0) (by_fault (fault (c.word n) n)) (Err (lacking n 0))

-- After the steps `before`, counted from a beginning in memory of `size` bytes, the step x was answered r.
abbrev pub Answered : Meaning → List Step → ℕ → Step → Answer → Type 0
Answered c before size (Write line word value) r = r ≡ write_at (after_steps c before) line word value
Answered c before size (Offer n) r =
    ((size ≢ 304644) → r ≡ Err (denied Memory Field size 0))
    × (size ≡ 304644 → 211 < n → r ≡ Err (denied Off Field n 0))
    × (size ≡ 304644 → n ≤ 211 → OfferedSound c before n → r ≡ Err (denied Held Field n 0))
    × (size ≡ 304644 → n ≤ 211 → (OfferedSound c before n → ⊥) → r ≡ offered_now (after_steps c before) n)

-- So was each step of the list, as many as there is room for the answers; other places are as they were.
pub record Answers (c : Meaning) (steps : List Step) (size : ℕ) (was now : List Answer) : Type 0 where
  pub room : length now ≡ length was
  pub each : (i : ℕ) → i < length steps → i < length now → Answered c (take i steps) size (slice_index_or steps i (Offer 0)) (slice_index_or now i (Ok tt))
  pub others : (i : ℕ) → length steps ≤ i → slice_index_or now i (Ok tt) ≡ slice_index_or was i (Ok tt)
