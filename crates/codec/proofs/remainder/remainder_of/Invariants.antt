use Rattle.std.proofs.Common.{◌≤◌, length, take}
use Rattle.codec.specs.Steps.{Remains}
use Rattle.codec.proofs.remainder.remainder_of.Given as goal

abbrev pub invariant-loop-symbol : goal.invariant-loop-symbol
invariant-loop-symbol g l = (l.symbol-index ≤ length l.word) × Remains g.F.Field.field (take l.symbol-index l.word) l.r
