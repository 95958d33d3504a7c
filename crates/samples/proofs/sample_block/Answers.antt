use Rattle.std.proofs.Common.{◌+◌, ◌*◌, ◌%◌, arith, rules}
use borrow.Author.Tests.{tests}
use Rattle.layout.proofs.Filled.{filled}
use Rattle.samples.proofs.sample_block.Goals as goal

pub returns : goal.returns
returns c =
    λ j h.
    filled (λ j. (31 * c.args.name.packet + 17 * c.args.name.channel + j) % 256) _ c.from_fn.result (λ i y q k. search (rules, tests)) 219 0 c.from_fn.ensures.items.each j
    (omega arith) h
