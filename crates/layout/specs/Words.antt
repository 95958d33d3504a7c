-- Ten-bit words.
use Rattle.std.specs.Prelude.{◌≡◌, ℕ, ◌+◌, ◌-◌, ◌*◌, ◌%◌, ◌<◌, count_ones}

-- The sent word of a byte has the byte in bits 0 to 7. Bit 8 is set exactly when the byte has an odd number of ones, and bit 9 is the
-- opposite of bit 8.
abbrev pub sent_word : ℕ → ℕ
sent_word b = b + 256 * (count_ones b % 2) + 512 * (1 - count_ones b % 2)

-- The byte of a received word is its low eight bits; bits 8 and 9 are not judged.
abbrev pub received_byte : ℕ → ℕ
received_byte w = w % 256

-- Every byte comes back from its word, and no two bytes share one.
pub record WordsApart : Type 0 where
  pub back : (b : ℕ) → b < 256 → received_byte (sent_word b) ≡ b
  pub apart : (b c : ℕ) → b < 256 → c < 256 → sent_word b ≡ sent_word c → b ≡ c
  pub narrow : (b : ℕ) → b < 256 → sent_word b < 1024
