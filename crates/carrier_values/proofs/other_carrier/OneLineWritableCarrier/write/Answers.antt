use Rattle.std.proofs.Common.{arith}
use Rattle.std.proofs.lemmas.Bool.Decides.{nat_tests}
use Rattle.carriers.proofs.Meanings.{list_written}
use Rattle.carrier_values.proofs.other_carrier.OneLineWritableCarrier.write.Goals as goal

pub returns-clause-after : goal.returns-clause-after
returns-clause-after c =
    let s = c.args.self.now in
    list_written s.line 1 s.words c.args.line c.args.word c.args.value c.in_ok-place.place c.in_ok-place.ensures (grind (arith, nat_tests))
