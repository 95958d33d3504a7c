use Rattle.codewords.proofs.Coding.{made}
use Rattle.codewords.proofs.symbols.make_bytes.Goals as goal

pub returns-clause-made : goal.returns-clause-made
returns-clause-made g c _ _ =
    made g.F.Field.field g.met.F.Field.laws c.args.source.now c.read_symbols.new.word c.unwrap-checks.result
    c.in_ok-read_symbols.ensures (rw c.unwrap-checks.ensures at c.check_symbols.ensures).1 c.args.coded.now c.write_coded.new.coded c.write_coded.ensures
