use Rattle.std.proofs.Common.{length, ap, ◌∙◌}
use Rattle.receiver.specs.Offers.{taken_byte}
use Rattle.receiver.proofs.offers.offer_into.Goals as goal

pub returns-clause-after : goal.returns-clause-after
returns-clause-after g c =
    let same = c.in-Some.ensures.cases.same in
    let held = c.in_ok-held.ensures.held in (
      c.take_line.ensures.size ∙ ap length same,
      λ i. c.take_line.ensures.bytes i ∙ (λ k. taken_byte (same k) ((g.C.Carrier.meaning (held.0 k)).word (held.1 k)) (held.1 k) i),
    )
