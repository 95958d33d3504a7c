use Rattle.std.proofs.Common.{◌*◌, arith}
use Rattle.std.proofs.lemmas.Bool.Decides.{nat_tests}
use Rattle.carriers.specs.Runs.{place_in}
use Rattle.strip.proofs.Bits.{number_below, number_bit}
use Rattle.strip.proofs.strip_fits.Goals as goal

pub returns : goal.returns
returns c = record {
  places = λ first bytes l w. grind (arith, nat_tests);
  bits = λ first bytes l w i h b. grind (arith, nat_tests, number_bit 10 bytes (10 * place_in first l w) i b);
  narrow = λ first bytes l w. grind (arith, nat_tests, number_below 10 bytes (10 * place_in first l w));
}
