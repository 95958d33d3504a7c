use Rattle.std.proofs.Common.{◌≡◌, ◌*◌}
use Rattle.layout.specs.Mapped.{Blocks}
use Rattle.sender.specs.Mapping.{CodedBlocks}
use Rattle.sender.specs.Passes.{with_stream}
use Rattle.sender.proofs.mapping.map_stream.Given as goal

abbrev pub invariant-loop-packet : goal.invariant-loop-packet
invariant-loop-packet g l = record {
  beside : g.C.WritableCarrier.rest l.lines.carrier ≡ g.C.WritableCarrier.rest l.initial.lines.carrier;
  after : (coded : Blocks) → CodedBlocks l.memory coded →
      g.C.Carrier.meaning l.lines.carrier ≡ with_stream coded (448 * l.packet) (g.C.Carrier.meaning l.initial.lines.carrier);
}
