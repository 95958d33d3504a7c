use Rattle.std.proofs.Common.{◌∙◌, lit<}
use Rattle.galois.proofs.Numbered.{alpha_below, alpha_high, alpha_low}
use Rattle.galois.proofs.element.arithmetic.ElementField.times_alpha.Goals as goal

pub returns-then-self : goal.returns-then-self
returns-then-self g c = c.of.ensures ∙ alpha_low g.bound-1-met.tabled c.args.self c.if-self.true

pub of-requires-2 : goal.of-requires-2
of-requires-2 g c = (lit< tt, rw c.REDUCTION.ensures (alpha_below g.bound-1-met.tabled c.args.self c.if-self.false))

pub returns : goal.returns
returns g c = rw c.REDUCTION.ensures at c.of-2.ensures ∙ alpha_high g.bound-1-met.tabled c.args.self c.if-self.false
