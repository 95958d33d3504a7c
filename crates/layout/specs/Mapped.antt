-- The words of a mapped field: what stands at each word of each of its 212 lines, given its coded blocks.
use Rattle.std.specs.Prelude.{◌≡◌, ℕ, ◌+◌, ◌-◌, ◌*◌, ◌/◌, ◌%◌, ◌≤◌, cond, ◌&&◌, List, Ok, ◌==◌, nat_lt, slice_index}
use Rattle.layout.specs.Places.{placed}
use Rattle.layout.specs.Words.{sent_word}

-- The coded block of each packet and channel.
abbrev pub Blocks : Type 0
Blocks = ℕ → ℕ → List ℕ

-- The mark of a line, its word 1.
abbrev pub mark_word : ℕ → ℕ
mark_word line = cond (line == 0) 0x1FE 0x1FD

-- These are the words of a field that carries the blocks.
pub record Mapped (blocks : Blocks) (word : ℕ → ℕ → ℕ) : Type 0 where
  pub types : (l : ℕ) → l ≤ 211 → word l 0 ≡ 0x248
  pub marks : (l : ℕ) → l ≤ 211 → word l 1 ≡ mark_word l
  -- each coded byte stands at its place
  pub stream : (p c j l w : ℕ) → placed p c j ≡ Ok (l, w) → word l w ≡ sent_word (slice_index (blocks p c) j)
  -- the last line is filled up behind the last packet
  pub filling : (w : ℕ) → 750 ≤ w → w ≤ 1437 → word 211 w ≡ 0x200
  -- and so are the two words of the line card
  pub card : (l w : ℕ) → l ≤ 211 → 1438 ≤ w → w ≤ 1439 → word l w ≡ 0x200

-- The byte at a place of the stream.
abbrev pub stream_byte : Blocks → ℕ → ℕ
stream_byte blocks q = slice_index (blocks (q / 448) (1 - q % 2)) (q % 448 / 2)

-- The word at each place.
abbrev pub field_word : Blocks → ℕ → ℕ → ℕ
field_word blocks line word =
    let q = 1436 * line + (word - 2) in
    cond (word == 0) 0x248
    (cond (word == 1) (mark_word line)
    (cond (nat_lt word 1438 && nat_lt q 303744) (sent_word (stream_byte blocks q)) 0x200))

-- These words are those of a field that carries the blocks, and no others are.
pub record FieldWorded : Type 0 where
  pub are : (blocks : Blocks) → Mapped blocks (field_word blocks)
  pub only : (blocks : Blocks) (word : ℕ → ℕ → ℕ) → Mapped blocks word → (l w : ℕ) → l ≤ 211 → w ≤ 1439 → word l w ≡ field_word blocks l w
