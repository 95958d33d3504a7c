-- What reading bytes as symbols tells.
use Rattle.std.specs.Prelude.{◌≡◌, ℕ, List, map, Ok, Err, Result}
use Rattle.galois.specs.Field.{Arithmetic}
use Rattle.denial.specs.Denials.{denied}
use Rattle.denial.specs.declared.Denial.{Denial}
use Rattle.denial.specs.declared.Reason.TheVariants.{Wide}
use Rattle.denial.specs.declared.Layer.TheVariants.{Code}
use Rattle.codewords.specs.Bytes.{FirstWide}

-- The bytes are the numbers of the word, or the first that is none is refused.
abbrev pub ReadAs : {F : Type 0} → Arithmetic F → List ℕ → List F → Result (Unit {0}) Denial → Type 0
ReadAs K bytes word (Ok _) = map K.number word ≡ bytes
ReadAs K bytes word (Err d) = (i : ℕ) × FirstWide K bytes i × (d ≡ denied Wide Code 0 i)
