use Rattle.std.proofs.Common.{Some, sym, ◌∙◌, arith}
use Rattle.codec.proofs.Changes.{differing_none, names_none}
use Rattle.codec.proofs.Deciding.{told_clean, told_determinant, told_quadratic}
use Rattle.codec.proofs.Answering.{mended}
use Rattle.codec.proofs.mender.mend.Goals as goal

pub returns-then-are_zero : goal.returns-then-are_zero
returns-then-are_zero g c =
    let K = g.F.Field.field in
    let m = g.met.F.Field in
    let w = c.args.word.now in
    mended K m.laws w w (Some c.none.result) (
      told_clean K m.laws w c.if-n-lt-SHORTEST.false (omega (arith, c.order.ensures)) c.syndromes_of-s.result c.syndromes_of-s.ensures (c.are_zero.ensures.yes c.if-are_zero.true),
      names_none c.none.result c.none.ensures.0 ∙ sym (differing_none K m.laws w),
    )

pub mend_one-requires-clause-singular : goal.mend_one-requires-clause-singular
mend_one-requires-clause-singular g c =
    let K = g.F.Field.field in
    let w = c.args.word.now in
    sym (told_determinant K g.met.F.Field.laws w c.if-n-lt-SHORTEST.false (omega (arith, c.order.ensures)) c.syndromes_of-s.result c.syndromes_of-s.ensures _ c.quadratic-t.ensures.square)
    ∙ c.is_zero.ensures.yes c.if-is_zero.true

pub mend_two-requires-clause-regular : goal.mend_two-requires-clause-regular
mend_two-requires-clause-regular g c = λ e.
    let K = g.F.Field.field in
    let w = c.args.word.now in
    c.is_zero.ensures.no c.if-is_zero.false
    (told_determinant K g.met.F.Field.laws w c.if-n-lt-SHORTEST.false (omega (arith, c.order.ensures)) c.syndromes_of-s.result c.syndromes_of-s.ensures _ c.quadratic-t.ensures.square ∙ e)

pub mend_two-requires-clause-shape : goal.mend_two-requires-clause-shape
mend_two-requires-clause-shape g c =
    let K = g.F.Field.field in
    let w = c.args.word.now in
    told_quadratic K g.met.F.Field.laws w c.if-n-lt-SHORTEST.false (omega (arith, c.order.ensures)) c.syndromes_of-s.result c.syndromes_of-s.ensures c.quadratic-t.result
    c.quadratic-t.ensures.square c.quadratic-t.ensures.linear c.quadratic-t.ensures.constant

pub returns-then-is_zero : goal.returns-then-is_zero
returns-then-is_zero g c = mended g.F.Field.field g.met.F.Field.laws _ _ c.mend_one.result c.mend_one.ensures

pub returns-else-is_zero : goal.returns-else-is_zero
returns-else-is_zero g c = mended g.F.Field.field g.met.F.Field.laws _ _ c.mend_two.result c.mend_two.ensures
