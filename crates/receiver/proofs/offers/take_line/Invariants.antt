use Rattle.std.proofs.Common.{◌≡◌, ℕ, ◌+◌, ◌<◌, length, get_or}
use Rattle.layout.specs.Words.{received_byte}
use Rattle.receiver.proofs.offers.take_line.Given as goal

abbrev pub invariant-loop-j : goal.invariant-loop-j
invariant-loop-j g l =
    (length l.byte-items ≡ 1436)
    × ((k : ℕ) → k < l.j → get_or l.byte-items k 0 ≡ received_byte ((g.C.Carrier.meaning l.held.carrier.now).word l.held.line (2 + k)))
