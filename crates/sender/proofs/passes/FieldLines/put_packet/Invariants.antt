use Rattle.std.proofs.Common.{◌≡◌, ◌+◌, ◌*◌, length}
use Rattle.carriers.specs.Meaning.{Meaning}
use Rattle.layout.specs.Mapped.{Blocks}
use Rattle.sender.specs.Passes.{with_stream}
use Rattle.sender.proofs.passes.FieldLines.put_packet.Given as goal

abbrev pub invariant-loop-j : goal.invariant-loop-j
invariant-loop-j g l = record {
  beside : g.C.WritableCarrier.rest l.self.carrier ≡ g.C.WritableCarrier.rest l.initial.self.carrier;
  after : (coded : Blocks) (m : Meaning) → coded l.packet 1 ≡ l.even → coded l.packet 0 ≡ l.odd →
      g.C.Carrier.meaning l.initial.self.carrier ≡ with_stream coded (448 * l.packet) m →
      g.C.Carrier.meaning l.self.carrier ≡ with_stream coded (448 * l.packet + 2 * length l.yielded) m;
}
