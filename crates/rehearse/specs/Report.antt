-- What became of a block, and the lines of the report.
use Rattle.std.specs.Prelude.{ℕ, ◌+◌, ◌-◌, ◌^◌, min, Bool, false, cond, List, [], ◌∷◌, ◌++◌, Ok, Err, codes, decimal, Result, ◌==◌}
use Rattle.std.specs.List.{join_with_byte}
use Rattle.codec.specs.Mend.{places}
use Rattle.codec.specs.declared.record.MendRecord.{MendRecord}
use Rattle.codewords.specs.Verdicts.{by_places, line_of_fields, verdict_fields}
use Rattle.denial.specs.Denials.{shown_of}
use Rattle.denial.specs.declared.Denial.{Denial}
use Rattle.denial.specs.declared.Reason.{Reason}
use Rattle.denial.specs.declared.Reason.TheVariants as reason
use Rattle.rehearse.specs.declared.report.Fate.{Fate}
use Rattle.rehearse.specs.declared.report.Fate.TheVariants.{Given, Missing, Lost}
use Rattle.rehearse.specs.declared.report.Tally.{Tally}

-- The fate that a refusal tells, by its reason: one for a line that is missing, one for a block that is lost, and none for any other.
abbrev pub by_reason : Reason → Denial → Result Fate Denial
by_reason reason.Memory d = Err d
by_reason reason.Off d = Err d
by_reason reason.Wide d = Err d
by_reason reason.«Type» d = Err d
by_reason reason.Empty d = Err d
by_reason reason.Mark d = Err d
by_reason reason.Held d = Err d
by_reason reason.Number d = Err d
by_reason reason.Length d = Err d
by_reason reason.Loaded d = Err d
by_reason reason.Unfilled d = Err d
by_reason reason.Short d = Err d
by_reason reason.Missing d = Ok (Missing d.place.0)
by_reason reason.Lost d = Ok Lost

-- The fate that an answer tells.
abbrev pub fate_of : Result MendRecord Denial → Result Fate Denial
fate_of (Ok mends) = Ok (Given mends)
fate_of (Err d) = by_reason d.reason d

-- The line of a step that was denied.
abbrev pub step_text : ℕ → Denial → List ℕ
step_text step d = codes "step " ++ (decimal step ++ (codes " denied " ++ (shown_of d ++ codes "\n")))

-- What is told of a block after its packet and channel: the verdict that the mending makes, where it was given.
abbrev pub fate_fields : Fate → List (List ℕ)
fate_fields (Given mends) = verdict_fields (by_places (places mends))
fate_fields (Missing line) = codes "missing" ∷ decimal line ∷ []
fate_fields Lost = codes "lost" ∷ []

-- The same with one space between them.
abbrev pub fate_words : Fate → List ℕ
fate_words fate = join_with_byte 32 (fate_fields fate)

-- A block was given, and nothing was mended.
abbrev pub is_clean : Fate → Bool
is_clean (Given mends) = mends.count == 0
is_clean (Missing line) = false
is_clean Lost = false

-- The line that tells of a block by its packet and channel.
abbrev pub named : ℕ → ℕ → Fate → List ℕ
named packet channel fate = line_of_fields (codes "block" ∷ decimal packet ∷ decimal channel ∷ fate_fields fate)

-- The line of a block; a clean one has none.
abbrev pub block_text : ℕ → ℕ → Fate → List ℕ
block_text packet channel fate = cond (is_clean fate) [] (named packet channel fate)

-- More of what is counted, in 64 bits.
abbrev pub more : ℕ → ℕ → ℕ
more n by = min (n + by) (2 ^ 64 - 1)

-- The tally with one more block that was given, so many bytes of it mended.
abbrev pub given_more : Tally → ℕ → Tally
given_more t mended =
    cond (mended == 0)
    (record { clean = more t.clean 1; mended = t.mended; missing = t.missing; lost = t.lost; bytes = t.bytes })
    (record { clean = t.clean; mended = more t.mended 1; missing = t.missing; lost = t.lost; bytes = more t.bytes mended })

-- The tally with one more block of this fate.
abbrev pub counted : Tally → Fate → Tally
counted t (Given mends) = given_more t mends.count
counted t (Missing l) = record { clean = t.clean; mended = t.mended; missing = more t.missing 1; lost = t.lost; bytes = t.bytes }
counted t Lost = record { clean = t.clean; mended = t.mended; missing = t.missing; lost = more t.lost 1; bytes = t.bytes }

-- What is told of all blocks after their number.
abbrev pub tally_words : Tally → List ℕ
tally_words t =
    decimal t.clean ++ (codes " clean, " ++ (decimal t.mended ++ (codes " mended, " ++ (decimal t.missing ++ (codes " missing, " ++ (decimal t.lost ++ (codes " lost, " ++ (decimal t.bytes ++ codes " bytes mended"))))))))

-- The last line.
abbrev pub tally_text : ℕ → Tally → List ℕ
tally_text blocks t = decimal blocks ++ (codes " blocks: " ++ (tally_words t ++ codes "\n"))
