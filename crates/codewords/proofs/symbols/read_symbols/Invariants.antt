use Rattle.std.proofs.Common.{◌≡◌, map, take}
use Rattle.codewords.proofs.symbols.read_symbols.Given as goal

abbrev pub invariant-loop-i : goal.invariant-loop-i
invariant-loop-i g l = map g.F.Field.field.number (take l.i l.word) ≡ take l.i l.bytes
