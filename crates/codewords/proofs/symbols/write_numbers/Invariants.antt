use Rattle.std.proofs.Common.{◌≡◌, map, take}
use Rattle.codewords.proofs.symbols.write_numbers.Given as goal

abbrev pub invariant-loop-i : goal.invariant-loop-i
invariant-loop-i g l = take l.i l.bytes ≡ map g.F.Field.field.number (take l.i l.word)
