-- Asking a closed receiver for a block.
use Rattle.std.specs.Prelude.{◌≡◌, ℕ, cond, List, length, take, Some, None, Ok, Err, Option, Result, ◌==◌}
use Rattle.codec.specs.Mend.{places}
use Rattle.codec.specs.declared.record.MendRecord.{MendRecord}
use Rattle.codewords.specs.Bytes.{differing_bytes, Refused, WithinTwoBytes}
use Rattle.denial.specs.Denials.{denied}
use Rattle.denial.specs.declared.Denial.{Denial}
use Rattle.denial.specs.declared.Reason.TheVariants.{Length, Lost, Missing}
use Rattle.denial.specs.declared.Layer.TheVariants.{Code, Field}
use Rattle.galois.specs.Fields.{gf256}
use Rattle.layout.specs.Places.{byte_line, is_block, no_such, second}
use Rattle.receiver.specs.Memory.{fits, gathered, is_free, unfit}

-- The line, where it was not taken.
abbrev pub untaken : List ℕ → ℕ → Option ℕ
untaken m line = cond (is_free m line) (Some line) None

-- The second line, where there is one and it was not taken.
abbrev pub free_second : List ℕ → Option ℕ → Option ℕ
free_second m None = None
free_second m (Some line) = untaken m line

-- The first of two lines, or of one, that was not taken.
abbrev pub first_free : List ℕ → ℕ → Option ℕ → Option ℕ
first_free m first second = cond (is_free m first) (Some first) (free_second m second)

-- The first of a block's lines that was not taken.
abbrev pub missing_line : List ℕ → ℕ → ℕ → Option ℕ
missing_line m packet channel = first_free m (byte_line packet channel 0) (second packet channel)

abbrev pub by_missing : Option ℕ → Option Denial
by_missing None = None
by_missing (Some line) = Some (denied Missing Field line 0)

-- A block's first line, and its second where it has one.
abbrev pub lines_at : ℕ → ℕ → Result (ℕ × Option ℕ) Denial
lines_at packet channel = cond (is_block packet channel) (Ok (byte_line packet channel 0, second packet channel)) (Err (no_such packet channel))

-- The answer to a check that refused for a reason or none.
abbrev pub checked : Option Denial → Result (Unit {0}) Denial
checked None = Ok tt
checked (Some d) = Err d

-- The refusal of a question before the block's bytes are looked at.
abbrev pub ask_refusal : List ℕ → ℕ → ℕ → List ℕ → Option Denial
ask_refusal m packet channel place =
    cond (fits m)
    (cond (is_block packet channel)
    (cond (length place == 219)
    (by_missing (missing_line m packet channel))
    (Some (denied Length Field (length place) 0)))
    (Some (no_such packet channel)))
    (Some (unfit m))

-- A block whose gathered bytes are g was answered r, and `after` is left in the answer place where `before` stood.
pub record Given (g : List ℕ) (packet channel : ℕ) (before after : List ℕ) (r : Result MendRecord Denial) : Type 0 where
  pub lost : ((v : List ℕ) → WithinTwoBytes gf256 224 g v → ⊥) → Refused before after r (denied Lost Code packet channel)
  -- the coded block within two of the gathered bytes is given, and the record names the places at which it differs from them
  pub gives : (v : List ℕ) → WithinTwoBytes gf256 224 g v →
      (after ≡ take 219 v) × ((k : MendRecord) × (r ≡ Ok k) × (places k ≡ differing_bytes v g))
  -- and where there is none, none is given; there is never more than one
  pub sound : (k : MendRecord) → r ≡ Ok k → (v : List ℕ) × WithinTwoBytes gf256 224 g v × ((u : List ℕ) → WithinTwoBytes gf256 224 g u → u ≡ v)

-- The same for a question of any kind: it is refused before the block's bytes are looked at, or answered by them.
pub record Asked (m : List ℕ) (packet channel : ℕ) (before after : List ℕ) (r : Result MendRecord Denial) : Type 0 where
  pub refuses : (d : Denial) → ask_refusal m packet channel before ≡ Some d → Refused before after r d
  pub answers : ask_refusal m packet channel before ≡ None → Given (gathered m packet channel) packet channel before after r
