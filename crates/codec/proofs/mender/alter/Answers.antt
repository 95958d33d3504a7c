use Rattle.std.proofs.Common.{set, ap, ◌∙◌}
use Rattle.reed_solomon.specs.Errors.{altered}
use Rattle.std.proofs.lemmas.List.{get_or_default}
use Rattle.codec.proofs.mender.alter.Goals as goal

pub returns : goal.returns
unfolding altered
returns g c =
    let K = g.F.Field.field in
    let w = c.args.word.now in
    let i = c.args.place in
    ap (set w i) (g.met.F.Field.sums _ _ _ c.add.ensures
    ∙ ap (λ x. K.plus x c.args.by) (c.index-word-place.is ∙ get_or_default w i _ K.zero c.requires))
