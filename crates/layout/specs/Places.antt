-- Where the bytes of coded blocks stand in a field: 678 packets of 448 bytes run on over 212 lines of 1436 stream bytes. A packet holds
-- an even block, from channel 1, and an odd one, from channel 0; their bytes alternate, the even one first.
use Rattle.std.specs.Prelude.{◌≡◌, ℕ, ◌+◌, ◌-◌, ◌*◌, ◌/◌, ◌%◌, ◌<◌, ◌≤◌, Bool, cond, ◌&&◌, ◌⊎◌, Some, None, Ok, Err, Option, Result, ◌==◌, ◌≢◌, nat_le}
use Rattle.denial.specs.Denials.{denied}
use Rattle.denial.specs.declared.Denial.{Denial}
use Rattle.denial.specs.declared.Reason.TheVariants.{Number}
use Rattle.denial.specs.declared.Layer.TheVariants.{Field}
use Rattle.layout.specs.declared.places.CodedByte.{CodedByte}

-- The place in the stream of byte j of a packet's block from a channel. A channel is 0 or 1.
abbrev pub stream_place : ℕ → ℕ → ℕ → ℕ
stream_place packet channel j = 448 * packet + 2 * j + (1 - channel)

-- The field line and the word of a place in the stream: words 0 and 1 of a line are no stream.
abbrev pub line_of : ℕ → ℕ
line_of q = q / 1436

abbrev pub word_of : ℕ → ℕ
word_of q = 2 + q % 1436

-- The line of byte j of a block.
abbrev pub byte_line : ℕ → ℕ → ℕ → ℕ
byte_line packet channel j = line_of (stream_place packet channel j)

-- There is such a block: packets are 0 to 677, channels 0 and 1.
abbrev pub is_block : ℕ → ℕ → Bool
is_block packet channel = nat_le packet 677 && nat_le channel 1

-- How many blocks stand before a block in the stream: a packet's block from channel 1 comes before the one from channel 0.
abbrev pub ordinal_of : ℕ → ℕ → ℕ
ordinal_of packet channel = 2 * packet + (1 - channel)

-- The denial of a question for what no field has.
abbrev pub no_such : ℕ → ℕ → Denial
no_such packet channel = denied Number Field packet channel

-- The answer to the question where a coded byte stands: line and word.
abbrev pub placed : ℕ → ℕ → ℕ → Result (ℕ × ℕ) Denial
placed packet channel j =
    let q = stream_place packet channel j in
    cond (is_block packet channel && nat_le j 223) (Ok (line_of q, word_of q)) (Err (no_such packet channel))

-- No two coded bytes stand at one place, and none is wanting: each place of the stream is that of one coded byte.
pub record StreamCovered : Type 0 where
  pub once : (p c j p' c' j' : ℕ) → c ≤ 1 → c' ≤ 1 → j ≤ 223 → j' ≤ 223 → stream_place p c j ≡ stream_place p' c' j' →
      (p ≡ p') × (c ≡ c') × (j ≡ j')
  pub each : (q : ℕ) → q < 678 * 448 →
      (p : ℕ) × (c : ℕ) × (j : ℕ) × (p ≤ 677) × (c ≤ 1) × (j ≤ 223) × (stream_place p c j ≡ q)

-- The answer to the question which coded byte stands at a word of a line: the one that is placed there, or none where none is.
abbrev pub Stands : ℕ → ℕ → Option CodedByte → Type 0
Stands line word None = (p c j : ℕ) → placed p c j ≢ Ok (line, word)
Stands line word (Some x) = placed x.packet x.channel x.byte ≡ Ok (line, word)

-- Each question undoes the other: what is said to stand at the place of a coded byte is that byte.
abbrev pub QuestionsUndo : Type 0
QuestionsUndo =
    (p c j line word : ℕ) (r : Option CodedByte) → placed p c j ≡ Ok (line, word) → Stands line word r →
    r ≡ Some (record { packet = p; channel = c; byte = j })

-- A block's second line: that of its last byte, or none where the block ends on its first line.
abbrev pub second : ℕ → ℕ → Option ℕ
second packet channel =
    cond (byte_line packet channel 223 == byte_line packet channel 0) None (Some (byte_line packet channel 223))

-- The answer to the question for it.
abbrev pub seconded : ℕ → ℕ → Result (Option ℕ) Denial
seconded packet channel = cond (is_block packet channel) (Ok (second packet channel)) (Err (no_such packet channel))

-- The lines on which the 224 bytes of a block stand are its first and r, and no other.
pub record Crosses (packet channel : ℕ) (r : Option ℕ) : Type 0 where
  pub all : (j : ℕ) → j ≤ 223 → (byte_line packet channel j ≡ byte_line packet channel 0) ⊎ (r ≡ Some (byte_line packet channel j))
  pub both : (line : ℕ) → r ≡ Some line → (byte_line packet channel 223 ≡ line) × (byte_line packet channel 0 ≢ line)
