use Rattle.std.proofs.Common.{◌≡◌, ◌*◌, take, drop, subst, arith}
use Rattle.codewords.specs.Blocks.{BlockOf}
use Rattle.sender.specs.Memory.{index_of}
use Rattle.sender.proofs.mapping.map_packet.Goals as goal

pub returns-clause-after : goal.returns-clause-after
returns-clause-after g c =
    let p = c.args.packet in
    let at-even : index_of p 1 ≡ 2 * p = omega arith in
    λ coded n blocks before.
    c.put_packet.ensures.after coded n
    (c.coded_block-even.ensures (coded p 1) (subst (λ o. BlockOf (take 219 (drop (219 * o) c.args.memory.now)) (coded p 1)) at-even (blocks p 1 c.requires (omega arith))))
    (c.coded_block-odd.ensures (coded p 0) (blocks p 0 c.requires (omega arith)))
    before
