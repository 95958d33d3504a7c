-- What a write followed by a read of the same place answers.
use Rattle.std.specs.Prelude.{ℕ, Ok, Err, Result}
use Rattle.denial.specs.declared.Denial.{Denial}
use Rattle.carriers.specs.Meaning.{Meaning, write_at}

-- The value that was written, or the refusal of the write.
abbrev pub read_back : Result (Unit {0}) Denial → ℕ → Result ℕ Denial
read_back (Ok done) value = Ok value
read_back (Err denial) value = Err denial

abbrev pub echoed : Meaning → ℕ → ℕ → ℕ → Result ℕ Denial
echoed m line word value = read_back (write_at m line word value) value
