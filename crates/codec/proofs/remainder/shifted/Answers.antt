use Rattle.std.proofs.Common.{◌∙◌}
use Rattle.galois.specs.Field.{power}
use Rattle.galois.specs.Roots.{cubic_at}
use Rattle.codec.proofs.Dividing.{remains_push}
use Rattle.codec.proofs.remainder.shifted.Goals as goal

pub returns : goal.returns
returns g c = λ w remains k h.
    let K = g.F.Field.field in
    let m = g.met.F.Field in
    (λ i. cubic_at K (record {
      k3 = m.sums _ _ _ c.add.ensures i;
      k2 = m.sums _ _ _ c.add-2.ensures i;
      k1 = m.sums _ _ _ c.add-3.ensures i;
      k0 = m.sums _ _ _ c.add-4.ensures i;
    }) (power K K.alpha k))
    ∙ remains_push K m.laws w c.args.r c.times_x4-carried.result c.args.symbol c.times_x4-carried.ensures remains k h
