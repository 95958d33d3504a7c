-- What a carrier means, and what a read and a write of a place answer and leave.
use Rattle.std.specs.Prelude.{ℕ, Bool, cond, ◌&&◌, Ok, Err, Result, ◌==◌, nat_le, nat_lt}
use Rattle.denial.specs.Denials.{denied}
use Rattle.denial.specs.declared.Denial.{Denial}
use Rattle.denial.specs.declared.Reason.TheVariants.{Off, Wide}
use Rattle.denial.specs.declared.Layer.TheVariants.{Carrier}

-- The lines from `first` on and before `end`, and the number that stands at each of the 1440 words of each. There are none where
-- `end` is not above `first`.
pub record Meaning : Type 0 where
  pub first : ℕ
  pub end : ℕ
  pub word : ℕ → ℕ → ℕ

-- It has the place: the line is one of its lines, and the word one of the 1440.
abbrev pub has : Meaning → ℕ → ℕ → Bool
has m line word = nat_le m.first line && (nat_lt line m.end && nat_lt word 1440)

-- The lines from `first` on and before `end`, with the given numbers. A place that a carrier lacks is given 0, so that carriers with
-- the same interval and the same numbers on its lines mean the same.
abbrev pub only : ℕ → ℕ → (ℕ → ℕ → ℕ) → Meaning
only first end word = record {
  first = first;
  end = end;
  word = λ l w. cond (nat_le first l && (nat_lt l end && nat_lt w 1440)) (word l w) 0;
}

-- The refusal of a place that the carrier lacks, and that of a value above 1023.
abbrev pub lacking : ℕ → ℕ → Denial
lacking line word = denied Off Carrier line word

abbrev pub too_wide : ℕ → ℕ → Denial
too_wide line word = denied Wide Carrier line word

-- What a read of a place answers: the number that stands there.
abbrev pub read_at : Meaning → ℕ → ℕ → Result ℕ Denial
read_at m line word = cond (has m line word) (Ok (m.word line word)) (Err (lacking line word))

-- What a write of a value at a place answers.
abbrev pub write_at : Meaning → ℕ → ℕ → ℕ → Result (Unit {0}) Denial
write_at m line word value =
    cond (has m line word) (cond (nat_le value 1023) (Ok tt) (Err (too_wide line word))) (Err (lacking line word))

-- A write is accepted.
abbrev pub accepts : Meaning → ℕ → ℕ → ℕ → Bool
accepts m line word value = has m line word && nat_le value 1023

-- What a carrier means after a write: an accepted one sets its place and no other, and a refused one changes nothing.
abbrev pub written : Meaning → ℕ → ℕ → ℕ → Meaning
written m line word value = record {
  first = m.first;
  end = m.end;
  word = λ l w. cond (accepts m line word value && (l == line && w == word)) value (m.word l w);
}
