use Rattle.std.proofs.Common.{◌≡◌, sym, ap, ◌∙◌, ap₂}
use Rattle.reed_solomon.proofs.Ring.{plus_cancel, times_one, times_assoc, times_comm}
use Rattle.codec.proofs.syndromes.Syndromes.error_at.Goals as goal

pub returns : goal.returns
returns g c =
    let K = g.F.Field.field in
    let m = g.met.F.Field in
    let product = m.products _ _ _ c.mul-2.ensures in
    let divisor = m.sums _ _ _ c.add-2.ensures in
    let nonzero : c.add-2.result ≡ K.zero → ⊥ = λ e. c.requires (plus_cancel K m.laws c.args.x c.args.y (sym divisor ∙ e)) in
    let dividend = m.sums _ _ _ c.add.ensures ∙ ap (λ p. K.plus p c.args.self.s1) (m.products _ _ _ c.mul.ensures) in
    ap₂ K.times product (sym divisor)
    ∙ times_assoc K m.laws _ _ _
    ∙ ap (K.times c.add.result) (times_comm K m.laws _ _ ∙ c.inverse.ensures.of_other nonzero)
    ∙ times_one K m.laws _ ∙ dividend
