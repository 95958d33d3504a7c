use Rattle.std.proofs.Common.{sym, rules, subst}
use Rattle.sender.specs.Mapping.{CodedBlocks}
use Rattle.sender.proofs.Blocks.{coded_block}
use Rattle.sender.proofs.Passing.{lacks_none}
use Rattle.sender.proofs.mapping.map_onto.Goals as goal

pub invariant_of-lines : goal.invariant_of-lines
invariant_of-lines g c =
    let lines = lacks_none (g.C.Carrier.meaning c.args.carrier.now) (sym c.in_default-first_absent.ensures) in
    record { first = lines.0; end = lines.1 }

pub returns-clause-after : goal.returns-clause-after
returns-clause-after g c =
    let coded = coded_block c.args.memory.now c.in_ok-memory.ensures.0 (λ k. (c.type_inv.memory k).fits) in
    let blocks : CodedBlocks c.in_ok-memory.memory.now (λ p c. (coded p c).0) = subst (λ m. CodedBlocks m (λ p c. (coded p c).0)) (sym c.in_ok-memory.ensures.1) (λ p c. (coded p c).1) in
    let written = c.map_field.ensures.after (λ p c. (coded p c).0) blocks in
    (λ p c. (coded p c).0, λ p c. (coded p c).1, search rules)
