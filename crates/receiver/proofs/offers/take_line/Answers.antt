use Rattle.std.proofs.Common.{arith}
use Rattle.receiver.proofs.Taking.{taken}
use Rattle.receiver.proofs.offers.take_line.Goals as goal

pub returns-clause-bytes : goal.returns-clause-bytes
returns-clause-bytes g c =
    taken c.args.memory.now c.loop-j.byte-items ((g.C.Carrier.meaning c.args.held.now.carrier.now).word c.args.held.now.line) c.args.held.now.line _
    (omega arith) c.args.held.now.low c.loop-j.invariant.0 (omega arith) (λ j h. c.loop-j.invariant.1 j (omega arith))
