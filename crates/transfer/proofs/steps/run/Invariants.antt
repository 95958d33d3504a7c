use Rattle.std.proofs.Common.{◌≡◌, take}
use Rattle.transfer.proofs.Running.{Noted}
use Rattle.transfer.specs.Runs.{Ran}
use Rattle.transfer.specs.Steps.{after_steps}
use Rattle.transfer.proofs.steps.run.Given as goal

abbrev pub invariant-loop-i : goal.invariant-loop-i
invariant-loop-i g l = record {
  carrier : g.C.Carrier.meaning l.carrier ≡ after_steps (g.C.Carrier.meaning l.initial.carrier) (take l.i l.steps);
  beside : g.C.WritableCarrier.rest l.carrier ≡ g.C.WritableCarrier.rest l.initial.carrier;
  memory : Ran (g.C.Carrier.meaning l.initial.carrier) (take l.i l.steps) l.initial.receiver.memory.now l.receiver.memory.now;
  same : l.receiver.memory.ghost_name ≡ l.initial.receiver.memory.ghost_name;
  noted : Noted (g.C.Carrier.meaning l.initial.carrier) l.steps l.initial.receiver.memory.now l.i l.initial.answers l.answers;
}
