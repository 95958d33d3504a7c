-- Mapping: the words of a whole field, written onto a carrier.
use Rattle.std.specs.Prelude.{◌≡◌, ℕ, ◌-◌, ◌/◌, ◌%◌, ◌≤◌, cond, not, ◌&&◌, List, Some, None, Ok, Err, Option, Result, nat_lt}
use Rattle.carriers.specs.Meaning.{has, Meaning}
use Rattle.codewords.specs.Blocks.{BlockOf}
use Rattle.denial.specs.Denials.{denied}
use Rattle.denial.specs.declared.Denial.{Denial}
use Rattle.denial.specs.declared.Reason.TheVariants.{Short, Unfilled}
use Rattle.denial.specs.declared.Layer.TheVariants.{Field}
use Rattle.layout.specs.First.{first_below}
use Rattle.layout.specs.Mapped.{Blocks, field_word}
use Rattle.sender.specs.Memory.{block_at, fits, is_unloaded, unfit}

-- The first block in the order of the stream that is not loaded.
abbrev pub unloaded : List ℕ → Option ℕ
unloaded m = first_below (is_unloaded m) 1356

-- The first line of a field that the carrier lacks.
abbrev pub absent : Meaning → Option ℕ
absent c = first_below (λ line. not (has c line 0)) 212

abbrev pub lines_answer : Option ℕ → Result (Unit {0}) Denial
lines_answer None = Ok tt
lines_answer (Some line) = Err (denied Short Field line 0)

abbrev pub blocks_answer : Option ℕ → Option ℕ → Result (Unit {0}) Denial
blocks_answer None line = lines_answer line
blocks_answer (Some i) line = Err (denied Unfilled Field (i / 2) (1 - i % 2))

-- What mapping answers.
abbrev pub map_at : List ℕ → Meaning → Result (Unit {0}) Denial
map_at m c = cond (fits m) (blocks_answer (unloaded m) (absent c)) (Err (unfit m))

-- A carrier with a field on its lines 0 to 211. Its other lines are as they were.
abbrev pub with_field : Blocks → Meaning → Meaning
with_field coded c = record {
  first = c.first;
  end = c.end;
  word = λ l w. cond (nat_lt l 212 && nat_lt w 1440) (field_word coded l w) (c.word l w);
}

-- Each block is the coded one of the bytes that were loaded for it: these, a reserved 0 and four check bytes.
abbrev pub CodedBlocks : List ℕ → Blocks → Type 0
CodedBlocks m coded = (p c : ℕ) → p ≤ 677 → c ≤ 1 → BlockOf (block_at m p c) (coded p c)

-- What the carrier means after mapping answered r: it has the field of the coded blocks, or is as it was.
abbrev pub MappedOnto : List ℕ → Meaning → Meaning → Result (Unit {0}) Denial → Type 0
MappedOnto m before after (Ok _) = (coded : Blocks) × CodedBlocks m coded × (after ≡ with_field coded before)
MappedOnto m before after (Err _) = after ≡ before
