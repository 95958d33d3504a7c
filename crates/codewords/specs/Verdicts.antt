-- What is said of a coded block, and the line that says it.
use Rattle.std.specs.Prelude.{◌≡◌, ℕ, ◌+◌, ◌/◌, ◌%◌, ◌^◌, ◌<◌, ◌≤◌, List, [], ◌∷◌, ◌++◌, length, codes, decimal}
use Rattle.std.specs.List.{join_with_byte}
use Rattle.galois.specs.Fields.{gf256}
use Rattle.codewords.specs.Bytes.{WithinTwoBytes, differing_bytes}
use Rattle.codewords.specs.declared.verdict.Verdict.{Verdict}
use Rattle.codewords.specs.declared.verdict.Verdict.TheVariants.{Clean, MendedOne, MendedTwo, Lost, Short}

-- v is a coded block, and differs from b in at most two bytes.
abbrev pub MendsTo : List ℕ → List ℕ → Type 0
MendsTo b v = WithinTwoBytes gf256 224 b v

-- The verdict on a block by the places at which the coded block within two differs from it.
abbrev pub by_places : List ℕ → Verdict
by_places [] = Clean
by_places (p ∷ []) = MendedOne p
by_places (p ∷ q ∷ ps) = MendedTwo p q

-- r is the verdict on the bytes b: short unless there are 224, lost where no coded block is within two, else by the places mended.
pub record Judged (b : List ℕ) (r : Verdict) : Type 0 where
  pub short : ¬ (length b ≡ 224) → r ≡ Short (length b)
  pub lost : length b ≡ 224 → ((v : List ℕ) → MendsTo b v → ⊥) → r ≡ Lost
  pub mended : (v : List ℕ) → MendsTo b v → r ≡ by_places (differing_bytes v b)
  -- a block of 224 bytes that is not called lost has a coded block within two
  pub sound : length b ≡ 224 → ¬ (r ≡ Lost) → (v : List ℕ) × MendsTo b v

-- There is one verdict on each run of bytes.
abbrev pub JudgedOneWay : Type 0
JudgedOneWay = (b : List ℕ) (r s : Verdict) → Judged b r → Judged b s → r ≡ s

-- A line is its fields with one space between them, and byte 10 at the end.
abbrev pub line_of_fields : List (List ℕ) → List ℕ
line_of_fields [] = 10 ∷ []
line_of_fields (field ∷ []) = field ++ (10 ∷ [])
line_of_fields (field ∷ next ∷ fields) = field ++ (32 ∷ line_of_fields (next ∷ fields))

-- The fields after the ordinal.
abbrev pub verdict_fields : Verdict → List (List ℕ)
verdict_fields Clean = codes "clean" ∷ []
verdict_fields (MendedOne place) = codes "mended" ∷ decimal place ∷ []
verdict_fields (MendedTwo first second) = codes "mended" ∷ decimal first ∷ decimal second ∷ []
verdict_fields Lost = codes "lost" ∷ []
verdict_fields (Short bytes) = codes "short" ∷ decimal bytes ∷ []

-- The same with one space between them.
abbrev pub verdict_words : Verdict → List ℕ
verdict_words verdict = join_with_byte 32 (verdict_fields verdict)

-- The line of a verdict.
abbrev pub verdict_text : ℕ → Verdict → List ℕ
verdict_text ordinal verdict = line_of_fields (decimal ordinal ∷ verdict_fields verdict)

-- The line says the verdict on the bytes b, after the ordinal.
pub record Tells (ordinal : ℕ) (b line : List ℕ) : Type 0 where
  pub verdict : Verdict
  pub judged : Judged b verdict
  pub text : line ≡ verdict_text ordinal verdict

-- Ordinals are counted in 64 bits.
abbrev pub next_ordinal : ℕ → ℕ
next_ordinal ordinal = (ordinal + 1) % 2 ^ 64

-- The text has a line for each 224 bytes of b, in their order, with ordinals from o on; fewer bytes at the end have a last line.
pub data Lines : ℕ → List ℕ → List ℕ → Type 0 where
  none : (o : ℕ) → Lines o [] []
  last : (o : ℕ) (b line : List ℕ) → 1 ≤ length b → length b < 224 → Tells o b line → Lines o b line
  block : (o : ℕ) (b rest line text : List ℕ) → length b ≡ 224 → Tells o b line → Lines (next_ordinal o) rest text →
      Lines o (b ++ rest) (line ++ text)

-- The lines of a stream are those of its pieces, one after the other, where each piece but the last is of whole blocks and the
-- ordinals go on.
abbrev pub LinesJoin : Type 0
LinesJoin =
    (o : ℕ) → o < 2 ^ 64 → (b c t u : List ℕ) → length b % 224 ≡ 0 →
    Lines o b t → Lines ((o + length b / 224) % 2 ^ 64) c u → Lines o (b ++ c) (t ++ u)
