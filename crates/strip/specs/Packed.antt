-- Words of ten bits, packed into bytes with no gap between them, the least bit of each first.
use Rattle.std.specs.Prelude.{◌≡◌, ℕ, zero, suc, ◌+◌, ◌-◌, ◌*◌, ◌/◌, ◌%◌, ◌^◌, ◌<◌, ◌≤◌, true, ◌↔◌, List, length, slice_index}
use Rattle.carriers.specs.Meaning.{has, Meaning}
use Rattle.carriers.specs.Runs.{run}

-- Bit k of a run of bytes: bit k mod 8 of byte k div 8, where bit 0 of a byte is its least.
unfoldable pub bit : List ℕ → ℕ → ℕ
bit bytes k = slice_index bytes (k / 8) / 2 ^ (k % 8) % 2

-- The number that the n bits from bit k on make, the least first.
unfoldable pub number : List ℕ → ℕ → ℕ → ℕ
number bytes k zero = 0
number bytes k (suc n) = bit bytes k + 2 * number bytes (k + 1) n

-- Word k of a run of bytes: its bits are 10k to 10k + 9.
abbrev pub word_at : List ℕ → ℕ → ℕ
word_at bytes k = number bytes (10 * k) 10

-- What a run of bytes means, 1800 to a line. The 1440 words of a line fill its 1800 bytes exactly, so that each line begins with a whole
-- byte, and the words of the run are those of its lines in turn.
abbrev pub strip : ℕ → List ℕ → Meaning
strip first bytes = run first (length bytes / 1800) (word_at bytes)

-- A strip has a word of a line exactly where the line is not before the first, not above 625, and stands in the memory from its first
-- byte to its last. Bit i of word w of a line is bit 10w + i of the line, which begins 14400 bits after the line before it. No
-- word is above 1023.
pub record StripFits : Type 0 where
  pub places : (first : ℕ) (bytes : List ℕ) (l w : ℕ) →
      (has (strip first bytes) l w ≡ true) ↔ ((first ≤ l) × (l ≤ 625) × (w < 1440) × ((l - first + 1) * 1800 ≤ length bytes))
  pub bits : (first : ℕ) (bytes : List ℕ) (l w i : ℕ) → has (strip first bytes) l w ≡ true → i < 10 →
      (strip first bytes).word l w / 2 ^ i % 2 ≡ bit bytes (14400 * (l - first) + 10 * w + i)
  pub narrow : (first : ℕ) (bytes : List ℕ) (l w : ℕ) → (strip first bytes).word l w < 1024
