use Rattle.std.proofs.Common.{sym, ap, ◌∙◌, add-one}
use Rattle.galois.specs.Field.{power}
use Rattle.reed_solomon.proofs.Clauses.{power_suc}
use Rattle.codec.proofs.roots.Locator.next.Goals as goal

pub invariant_of-result : goal.invariant_of-result
invariant_of-result g c =
    let K = g.F.Field.field in
    let here = c.args.self.now in
    record {
      is = c.times_alpha.ensures ∙ ap (K.times K.alpha) here.is ∙ sym (power_suc K K.alpha here.exponent)
          ∙ ap (power K K.alpha) (sym (add-one here.exponent));
    }
