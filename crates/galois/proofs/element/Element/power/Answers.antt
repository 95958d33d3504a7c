use Rattle.std.proofs.Common.{lit<}
use Rattle.galois.proofs.Numbered.{power_below}
use Rattle.galois.proofs.element.Element.power.Goals as goal

pub of-requires : goal.of-requires
of-requires g c = (lit< tt, rw c.powers.ensures (power_below g.bound-1-met.tabled c.args.k c.requires))
