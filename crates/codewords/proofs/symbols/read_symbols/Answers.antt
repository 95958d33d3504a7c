use Rattle.std.proofs.Common.{◌≡◌, Err, refl, arith}
use Rattle.std.proofs.lemmas.Result.{err_from_is_err_and}
use Rattle.denial.specs.Denials.{denied}
use Rattle.denial.specs.declared.Reason.TheVariants.{Wide}
use Rattle.denial.specs.declared.Layer.TheVariants.{Code}
use Rattle.codewords.proofs.Numbers.{front_below}
use Rattle.codewords.proofs.symbols.read_symbols.Goals as goal

pub returns-in_err-word : goal.returns-in_err-word
returns-in_err-word g c =
    let i = c.loop-i.i in
    let none = c.in_err-word.ensures.ok_part in
    let p = err_from_is_err_and c.from_residual.result c.from_residual.ensures.1 in
    let made = rw none at c.in_err-word.ensures.value in
    let is : c.from_residual.result ≡ Err (denied Wide Code 0 i) = cc in
    rw is (
      i,
      record {
        inside = c.loop-i-test.true;
        wide = rw none at c.from_number.ensures;
        first = front_below g.F.Field.field g.met.F.Field.laws c.loop-i.word c.args.bytes.now i (omega arith) c.loop-i.invariant;
      },
      refl,
    )
