-- How a run of memory holds lines one after the other, from a told first line. A line that is not whole does not count, nor does one
-- that is numbered above 625.
use Rattle.std.specs.Prelude.{◌≡◌, ℕ, ◌+◌, ◌-◌, ◌*◌, ◌/◌, ◌<◌, ◌≤◌, min, true, cond, ◌&&◌, ◌↔◌, List, length, drop, Ok, Err, Result, nat_le, nat_lt, slice_index}
use Rattle.denial.specs.declared.Denial.{Denial}
use Rattle.carriers.specs.Meaning.{has, lacking, Meaning, only, too_wide}

-- The line after the last of so many whole lines.
abbrev pub end_of : ℕ → ℕ → ℕ
end_of first lines = min (first + lines) 626

-- Which word of the run, counted from 0, is a word of a line.
abbrev pub place_in : ℕ → ℕ → ℕ → ℕ
place_in first line word = (line - first) * 1440 + word

-- The answer to the question which word of a run of so many whole lines a write of a value sets: a place that the run lacks is refused
-- before a value above 1023 is.
abbrev pub placed_for : ℕ → ℕ → ℕ → ℕ → ℕ → Result ℕ Denial
placed_for first lines line word value =
    cond (nat_le first line && (nat_lt line (end_of first lines) && nat_lt word 1440))
    (cond (nat_le value 1023) (Ok (place_in first line word)) (Err (too_wide line word))) (Err (lacking line word))

-- What a run of so many whole lines means, given the number of each of its words.
abbrev pub run : ℕ → ℕ → (ℕ → ℕ) → Meaning
run first lines number = only first (end_of first lines) (λ l w. number (place_in first l w))

-- What remains of a run behind its lines, where a line takes up `size` items.
abbrev pub behind : ℕ → ℕ → List ℕ → List ℕ
behind size first items = drop ((end_of first (length items / size) - first) * size) items

-- What a run of numbers means, 1440 to a line.
abbrev pub sheet : ℕ → List ℕ → Meaning
sheet first words = run first (length words / 1440) (λ k. slice_index words k)

-- A sheet has a word of a line exactly where the line is not before the first, not above 625, and stands in the memory from its first
-- word to its last; and there the number of that word of that line of the memory stands.
pub record SheetFits : Type 0 where
  pub places : (first : ℕ) (words : List ℕ) (l w : ℕ) →
      (has (sheet first words) l w ≡ true) ↔ ((first ≤ l) × (l ≤ 625) × (w < 1440) × ((l - first + 1) * 1440 ≤ length words))
  pub words : (first : ℕ) (words : List ℕ) (l w : ℕ) → has (sheet first words) l w ≡ true →
      (sheet first words).word l w ≡ slice_index words (1440 * (l - first) + w)
