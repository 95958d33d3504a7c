use Rattle.std.proofs.Common.{◌≡◌}
use Rattle.sender.specs.Passes.{with_edges}
use Rattle.sender.proofs.passes.FieldLines.put_all_edges.Given as goal

abbrev pub invariant-loop-line : goal.invariant-loop-line
invariant-loop-line g l = record {
  beside : g.C.WritableCarrier.rest l.self.carrier ≡ g.C.WritableCarrier.rest l.initial.self.carrier;
  after : g.C.Carrier.meaning l.self.carrier ≡ with_edges l.line (g.C.Carrier.meaning l.initial.self.carrier);
}
