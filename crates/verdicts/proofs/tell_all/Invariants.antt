use Rattle.std.proofs.Common.{◌≡◌, length}
use Rattle.verdicts.proofs.tell_all.Given as goal

-- an array that the loop writes keeps its length
abbrev pub invariant-loop : goal.invariant-loop
invariant-loop g l = length l.piece ≡ 14336
