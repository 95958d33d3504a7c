use Rattle.std.proofs.Common.{◌≡◌, ◌-◌, ◌<◌, length, sym, refl, ap, ◌∙◌, subst, arith}
use Rattle.reed_solomon.specs.Code.{differing}
use Rattle.reed_solomon.specs.Errors.{altered}
use Rattle.codec.specs.Mend.{WithinTwo, places}
use Rattle.codec.proofs.Changes.{differing_two, names_two}
use Rattle.codec.proofs.Deciding.{two_first, two_second, two_right, two_nonzero}
use Rattle.codec.proofs.mender.mend_two.Goals as goal

pub returns-in_err-later : goal.returns-in_err-later
returns-in_err-later g c =
    let m = g.met.F.Field in
    rw c.from_residual.ensures (
      refl,
      two_first g.F.Field.field m.laws c.args.word.now c.requires.told.long c.requires.told.short c.args.s c.requires.told.values c.requires.regular c.args.t c.requires.shape
          (λ k l h e. c.in_err-later.ensures k (omega (arith, c.last.ensures)) h e),
    )

pub returns-in_err-earlier : goal.returns-in_err-earlier
returns-in_err-earlier g c =
    let m = g.met.F.Field in
    rw c.from_residual-in_err-earlier.ensures (
      refl,
      two_second g.F.Field.field m.laws c.args.word.now c.requires.told.long c.requires.told.short c.args.s c.requires.told.values c.requires.regular c.args.t c.requires.shape
          c.in_ok-later.later.exponent
          (λ k l h e. c.in_ok-later.ensures.first k (omega (arith, c.last.ensures)) h e)
          (λ k l h e. c.in_err-earlier.ensures k (omega (arith, c.next.ensures.exponent)) h e),
    )

pub returns : goal.returns
returns g c =
    let K = g.F.Field.field in
    let m = g.met.F.Field in
    let w = c.args.word.now in
    let later = c.in_ok-later.ensures in
    let earlier = c.in_ok-earlier.ensures in
    let e = c.in_ok-later.later.exponent in
    let f = c.in_ok-earlier.earlier.exponent in
    let ef : e < f = omega (arith, earlier.from, c.next.ensures.exponent) in
    let p = c.error_at-error.result in
    let q = c.add-other.result in
    let second = m.sums _ _ _ c.add-other.ensures in
    let near = two_right K m.laws w c.requires.told.long c.requires.told.short c.args.s c.requires.told.values c.requires.regular c.args.t c.requires.shape e f
    c.in_ok-earlier.earlier.value c.in_ok-later.later.value p q ef earlier.below earlier.is later.is
    earlier.root later.root c.error_at-error.ensures second in
    let nonzero = two_nonzero K m.laws w c.requires.told.long c.requires.told.short c.args.s c.requires.told.values c.requires.regular c.args.t c.requires.shape e f
    c.in_ok-earlier.earlier.value c.in_ok-later.later.value p q ef earlier.below earlier.is later.is
    earlier.root later.root c.error_at-error.ensures second in
    let rising : length w - 1 - f < length w - 1 - e = omega (arith, earlier.below) in
    let inside : length w - 1 - e < length w = omega (arith, earlier.below) in
    let named = names_two c.two.result (length w - 1 - f) (length w - 1 - e) c.two.ensures.0 c.two.ensures.1 c.two.ensures.2
    ∙ sym (differing_two K m.laws w (length w - 1 - f) (length w - 1 - e) p q rising inside nonzero.0 nonzero.1) in
    let after = c.alter-2.ensures ∙ ap (λ u. altered K u (length w - 1 - e) q) c.alter.ensures in
    subst (λ v. WithinTwo K w v × (places c.two.result ≡ differing K.number v w)) (sym after) (near, named)
