use Rattle.std.proofs.Common.{◌≡◌, ◌-◌, ◌<◌, length, sym, refl, ◌∙◌, subst, arith}
use Rattle.reed_solomon.specs.Code.{differing}
use Rattle.codec.specs.Mend.{WithinTwo, places}
use Rattle.codec.proofs.Changes.{differing_one, names_one}
use Rattle.codec.proofs.Deciding.{one_zero, one_missed, one_wrong, one_right}
use Rattle.codec.proofs.mender.mend_one.Goals as goal

pub returns-then-is_zero : goal.returns-then-is_zero
returns-then-is_zero g c =
    let m = g.met.F.Field in (
      refl,
      one_zero g.F.Field.field m.laws c.args.word.now c.requires.told.long c.requires.told.short c.args.s c.requires.told.values c.requires.unclean c.requires.singular
          (c.is_zero.ensures.yes c.if-is_zero.true),
    )

pub returns-in_err-root : goal.returns-in_err-root
returns-in_err-root g c =
    let m = g.met.F.Field in
    rw c.from_residual.ensures (
      refl,
      one_missed g.F.Field.field m.laws c.args.word.now c.requires.told.long c.requires.told.short c.args.s c.requires.told.values c.requires.unclean c.requires.singular
          c.zero.result c.zero.ensures (λ k l h e. c.in_err-root.ensures k (omega (arith, c.last.ensures)) h e),
    )

pub returns-then-not-step_by : goal.returns-then-not-step_by
returns-then-not-step_by g c =
    let m = g.met.F.Field in
    let found = c.in_ok-root.ensures in (
      refl,
      one_wrong g.F.Field.field m.laws c.args.word.now c.requires.told.long c.requires.told.short c.args.s c.requires.told.values c.requires.unclean c.requires.singular
          c.zero.result _ c.zero.ensures found.root (c.step_by.ensures.no c.if-not-step_by.true),
    )

pub returns : goal.returns
returns g c =
    let K = g.F.Field.field in
    let m = g.met.F.Field in
    let w = c.args.word.now in
    let s = c.args.s in
    let e = c.in_ok-root.root.exponent in
    let p = length w - 1 - e in
    let found = c.in_ok-root.ensures in
    let steps = c.step_by.ensures.yes c.if-not-step_by.false in
    let nonzero = c.is_zero.ensures.no c.if-is_zero.false in
    let inside : length w - 1 - e < length w = omega (arith, found.below) in
    let near = one_right K m.laws w c.requires.told.long c.requires.told.short s c.requires.told.values c.zero.result c.in_ok-root.root.value e
    c.zero.ensures nonzero found.root steps.0 steps.1 found.below found.is in
    let named = names_one c.one.result p c.one.ensures.0 c.one.ensures.1 ∙ sym (differing_one K m.laws w p s.s0 inside nonzero) in
    subst (λ v. WithinTwo K w v × (places c.one.result ≡ differing K.number v w)) (sym c.alter.ensures) (near, named)
