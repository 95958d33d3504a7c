use Rattle.std.proofs.Common.{lit<}
use Rattle.galois.proofs.Numbered.{sum_below}
use Rattle.galois.proofs.element.arithmetic.ElementAdd.add.Goals as goal

pub of-requires : goal.of-requires
of-requires g c = (lit< tt, sum_below g.bound-1-met.tabled c.args.self c.args.rhs)
