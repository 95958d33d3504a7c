use Rattle.galois.proofs.Numbered.{log_is}
use Rattle.galois.proofs.element.Element.log.Goals as goal

pub returns : goal.returns
returns g c = rw c.logs.ensures (log_is g.bound-1-met.tabled c.args.self.bits c.if-self-eq0.false c.args.self.below)
