use Rattle.galois.proofs.Numbered.{inverse_is}
use Rattle.galois.proofs.element.arithmetic.ElementField.inverse.Goals as goal

pub returns-in-Some : goal.returns-in-Some
returns-in-Some g c = rw c.power.ensures (inverse_is g.bound-1-met.tabled c.args.self c.in-Some.k c.in-Some.ensures.0 c.in-Some.ensures.1)
