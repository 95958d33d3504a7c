use Rattle.galois.proofs.Numbered.{element_is}
use Rattle.galois.proofs.element.Element.of.Goals as goal
use Rattle.std.proofs.Common.{refl}

pub returns : goal.returns
returns g c = element_is g.bound-1-met.tabled _ c.args.bits c.requires refl
