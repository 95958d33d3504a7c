-- Offering a line of a carrier to a receiver.
use Rattle.std.specs.Prelude.{◌≡◌, ℕ, ◌+◌, ◌-◌, ◌*◌, ◌<◌, ◌≤◌, cond, not, ◌&&◌, ◌↔◌, List, length, Some, None, Ok, Err, Option, Result, ◌==◌, nat_le, nat_lt, slice_index}
use Rattle.carriers.specs.Meaning.{has, lacking, Meaning}
use Rattle.denial.specs.Denials.{denied}
use Rattle.denial.specs.declared.Denial.{Denial}
use Rattle.denial.specs.declared.Reason.TheVariants.{Empty, Held, Mark, Off, «Type», Wide}
use Rattle.denial.specs.declared.Layer.TheVariants.{Field, Line}
use Rattle.layout.specs.First.{first_below}
use Rattle.layout.specs.Mapped.{mark_word}
use Rattle.layout.specs.Words.{received_byte}
use Rattle.receiver.specs.Asks.{checked}
use Rattle.receiver.specs.Memory.{fits, is_free, unfit}

-- The words of line n are sound: none is above 1023, and the first two are those of a line of data.
pub record Sound (word : ℕ → ℕ) (n : ℕ) : Type 0 where
  pub narrow : (w : ℕ) → w < 1440 → word w ≤ 1023
  pub type_word : word 0 ≡ 0x248
  pub mark : word 1 ≡ mark_word n

-- The refusal by the first two words.
abbrev pub head_fault : ℕ → ℕ → ℕ → Option Denial
head_fault type mark n =
    cond (type == 0x248)
    (cond (mark == 0x200) (Some (denied Empty Line n 1))
    (cond (mark == mark_word n) None (Some (denied Mark Line n 1))))
    (Some (denied «Type» Line n 0))

-- The refusal of a line whose word w is the first that is too wide, or that has none.
abbrev pub fault_by : Option ℕ → (ℕ → ℕ) → ℕ → Option Denial
fault_by (Some w) word n = Some (denied Wide Line n w)
fault_by None word n = head_fault (word 0) (word 1) n

-- The refusal of the words of line n, if they are not sound.
abbrev pub fault : (ℕ → ℕ) → ℕ → Option Denial
fault word n = fault_by (first_below (λ w. not (nat_le (word w) 1023)) 1440) word n

-- A line is refused exactly where its words are not sound.
abbrev pub FaultsFound : Type 0
FaultsFound = (word : ℕ → ℕ) (n : ℕ) → (fault word n ≡ None) ↔ Sound word n

abbrev pub by_fault : Option Denial → Result (Unit {0}) Denial
by_fault = checked

-- What an offer of a carrier's line n answers.
abbrev pub offer_at : List ℕ → Meaning → ℕ → Result (Unit {0}) Denial
offer_at m c n =
    cond (fits m)
    (cond (nat_le n 211)
    (cond (is_free m n)
    (cond (has c n 0) (by_fault (fault (c.word n) n)) (Err (lacking n 0)))
    (Err (denied Held Field n 0)))
    (Err (denied Off Field n 0)))
    (Err (unfit m))

-- Byte i of a memory that took line n: the line's 1436 bytes and its mark are set, and no other byte is.
abbrev pub taken_byte : List ℕ → (ℕ → ℕ) → ℕ → ℕ → ℕ
taken_byte m word n i =
    cond (i == 304432 + n) 1
    (cond (nat_le (1436 * n) i && nat_lt i (1436 * n + 1436)) (received_byte (word (2 + (i - 1436 * n)))) (slice_index m i))

-- The memory after an offer that was answered r: the line is taken whole, or not a byte is changed.
abbrev pub Offered : List ℕ → (ℕ → ℕ) → ℕ → List ℕ → Result (Unit {0}) Denial → Type 0
Offered m word n m' (Ok _) = (length m' ≡ length m) × ((i : ℕ) → slice_index m' i ≡ taken_byte m word n i)
Offered m word n m' (Err _) = m' ≡ m
