use Rattle.std.proofs.Common.{[], ◌∷◌, ◌++◌, sym, ◌∙◌, subst}
use Rattle.codec.specs.Steps.{Remains}
use Rattle.codec.proofs.Dividing.{remains_four}
use Rattle.codec.proofs.remainder.remainder_with_zeros.Goals as goal

pub returns : goal.returns
returns g c = λ z e.
    let K = g.F.Field.field in
    let w = c.args.word.now in
    let o = c.zero-zero.result in
    let r = c.shifted.result in
    let all = remains_four K g.met.F.Field.laws w o r
    (c.shifted.ensures _ (c.shifted-r-3.ensures _ (c.shifted-r-2.ensures _ (c.shifted-r.ensures w c.remainder_of-r.ensures)))) in
    subst (λ y. Remains K (w ++ (y ∷ y ∷ y ∷ y ∷ [])) r) (c.zero-zero.ensures ∙ sym e) all
