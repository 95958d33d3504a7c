-- Lent memory whose end is set to 0.
use Rattle.std.specs.Prelude.{ℕ, ◌-◌, List, ◌++◌, length, take, replicate}
use Rattle.denial.specs.Denials.{denied}
use Rattle.denial.specs.declared.Denial.{Denial}
use Rattle.denial.specs.declared.Reason.TheVariants.{Memory}
use Rattle.denial.specs.declared.Layer.TheVariants.{Field}

-- Every byte from a place on is 0, and those before it are as they were.
unfoldable pub cleared : List ℕ → ℕ → List ℕ
cleared m from = take from m ++ replicate (length m - from) 0

-- The refusal of memory of another length than it is to have.
abbrev pub unfit : List ℕ → Denial
unfit m = denied Memory Field (length m) 0
