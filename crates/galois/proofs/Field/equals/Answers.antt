use Rattle.std.proofs.Common.{sym, ◌∙◌}
use Rattle.galois.proofs.Abstract.{same_of_sum}
use Rattle.galois.proofs.Field.equals.Goals as goal

pub returns-clause-yes : goal.returns-clause-yes
returns-clause-yes g c = λ t.
    let m = g.met.Self.Field in
    same_of_sum m.laws c.args.self c.args.other (sym (m.sums _ _ c.add.result c.add.ensures) ∙ c.is_zero.ensures.yes t)
