use Rattle.std.proofs.Common.{◌≡◌, ◌+◌, ◌*◌, ap, ◌∙◌, arith}
use Rattle.sender.specs.Passes.{with_stream}
use Rattle.sender.proofs.mapping.map_stream.Goals as goal

pub loop-packet-preserved : goal.loop-packet-preserved
loop-packet-preserved g c =
    let inv = c.loop-packet.invariant in
    let one = c.map_packet.ensures in
    let next : 448 * c.loop-packet.packet + 448 ≡ 448 * (c.loop-packet.packet + 1) = omega arith in record {
      beside = one.beside ∙ inv.beside;
      after = λ coded blocks.
          one.after coded _ blocks (inv.after coded blocks) ∙ ap (λ q. with_stream coded q (g.C.Carrier.meaning c.args.lines.now.carrier)) next;
    }
