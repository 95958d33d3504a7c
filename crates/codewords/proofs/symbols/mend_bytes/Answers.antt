use Rattle.std.proofs.Common.{◌≡◌, Err, map, length, sym, ap, ◌∙◌, arith}
use Rattle.std.proofs.lemmas.List.{length-map}
use Rattle.std.proofs.lemmas.Result.{err_from_is_err_and}
use Rattle.denial.specs.Denials.{denied}
use Rattle.denial.specs.declared.Reason.TheVariants.{Lost}
use Rattle.denial.specs.declared.Layer.TheVariants.{Code}
use Rattle.codewords.proofs.Mends.{given, lost}
use Rattle.codewords.proofs.symbols.mend_bytes.Goals as goal

pub returns-in_err-mends : goal.returns-in_err-mends
returns-in_err-mends g c =
    let K = g.F.Field.field in
    let w = c.read_symbols.new.word in
    let e : map K.number w ≡ c.args.bytes.now = c.in_ok-read_symbols.ensures in
    let size : length w ≡ length c.args.word.now = sym (length-map w K.number) ∙ ap length e ∙ c.if-bytes-word.false in
    let none = c.in_err-mends.ensures.ok_part in
    let p = err_from_is_err_and c.from_residual-in_err-mends.result c.from_residual-in_err-mends.ensures.1 in
    let made = rw none at c.in_err-mends.ensures.value in
    let is : c.from_residual-in_err-mends.result ≡ Err (denied Lost Code 0 0) = cc in
    rw (is, ← e, ← size, ← length-map w K.number)
    (lost K g.met.F.Field.laws w (omega (arith, c.requires.long)) (omega (arith, c.requires.short)) c.mend.new.word (rw none at c.mend.ensures))

pub returns : goal.returns
returns g c =
    let K = g.F.Field.field in
    let w = c.read_symbols.new.word in
    let e : map K.number w ≡ c.args.bytes.now = c.in_ok-read_symbols.ensures in
    let size : length w ≡ length c.args.word.now = sym (length-map w K.number) ∙ ap length e ∙ c.if-bytes-word.false in
    let some = c.in_ok-mends.ensures.ok_part in
    rw (c.write_numbers.ensures, ← e, ← size, ← length-map w K.number)
    (given K g.met.F.Field.laws w (omega (arith, c.requires.long)) (omega (arith, c.requires.short)) c.mend.new.word c.in_ok-mends.mends (rw some at c.mend.ensures))
