use Rattle.std.proofs.Common.{◌∙◌}
use Rattle.transfer.proofs.Running.{after_more, answers_more, run_more}
use Rattle.transfer.proofs.steps.run.Goals as goal

pub loop-i-preserved : goal.loop-i-preserved
loop-i-preserved g c =
    let inv = c.loop-i.invariant in
    let did = c.carry_out-answer.ensures in
    let more = c.loop-i-test.true in
    let steps = c.args.steps.now in
    record {
      carrier = after_more _ steps c.loop-i.i _ _ _ more inv.carrier did.carrier;
      beside = did.beside ∙ inv.beside;
      memory = run_more _ steps c.loop-i.i _ _ _ _ _ _ more inv.carrier inv.memory did.answer did.memory;
      same = did.same ∙ inv.same;
      noted = answers_more _ steps c.loop-i.i _ _ _ _ c.carry_out-answer.result c.args.answers.now c.loop-i.answers c.note.new.answers more inv.carrier
          inv.memory did.answer c.note.ensures inv.noted;
    }
