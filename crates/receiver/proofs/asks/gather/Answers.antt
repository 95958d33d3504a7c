use Rattle.std.proofs.Common.{◌+◌, ◌*◌, get_or, ap, ◌∙◌, arith, rules}
use borrow.Author.Tests.{tests}
use Rattle.layout.proofs.Filled.{filled}
use Rattle.receiver.proofs.Gathers.{gathered_all}
use Rattle.receiver.proofs.asks.gather.Goals as goal

pub returns : goal.returns
returns c =
    let m = c.args.memory.now in
    let start = c.start-start.result in
    gathered_all m c.args.name.packet c.args.name.channel c.from_fn.result (omega arith)
    (λ k h.
    filled (λ j. get_or m (start + 2 * j) 0) _ c.from_fn.result (λ i y q k. search (rules, tests)) 224 0 c.from_fn.ensures.items.each k (omega arith) h
    ∙ ap (λ i. get_or m i 0) (omega arith))
