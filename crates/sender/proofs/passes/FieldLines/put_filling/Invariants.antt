use Rattle.std.proofs.Common.{◌≡◌, ◌≤◌}
use Rattle.sender.specs.Passes.{with_filling}
use Rattle.sender.proofs.passes.FieldLines.put_filling.Given as goal

abbrev pub invariant-loop-word : goal.invariant-loop-word
invariant-loop-word g l = record {
  behind : 750 ≤ l.word;
  beside : g.C.WritableCarrier.rest l.self.carrier ≡ g.C.WritableCarrier.rest l.initial.self.carrier;
  after : g.C.Carrier.meaning l.self.carrier ≡ with_filling l.word (g.C.Carrier.meaning l.initial.self.carrier);
}
