use Rattle.std.proofs.Common.{sym, ◌∙◌}
use Rattle.reed_solomon.proofs.Clauses.{power_zero}
use Rattle.codec.proofs.roots.Locator.last.Goals as goal

pub invariant_of-result : goal.invariant_of-result
invariant_of-result g c = let K = g.F.Field.field in record { is = c.one.ensures ∙ sym (power_zero K K.alpha) }
