use Rattle.std.proofs.Common.{arith}
use Rattle.codec.proofs.Dividing.{remains_none}
use Rattle.codec.proofs.remainder.remainder_of.Goals as goal

pub loop-symbol-init : goal.loop-symbol-init
loop-symbol-init g c = (omega arith, remains_none g.F.Field.field g.met.F.Field.laws c.zero-zero.result c.zero-zero.ensures)
