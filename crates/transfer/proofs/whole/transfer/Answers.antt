use Rattle.transfer.proofs.Sending.{done}
use Rattle.transfer.proofs.whole.transfer.Goals as goal

pub returns-in-Ok-clause-done : goal.returns-in-Ok-clause-done
returns-in-Ok-clause-done g c =
    let map = c.in-Ok.ensures in
    let gather = c.gather.ensures in
    done c.args.sender.now.memory.now (g.C.Carrier.meaning c.args.carrier.now) _ _ c.args.steps.now c.args.memory.now _ c.args.answers.now _
    map.answer map.after.0 map.after.1 map.after.2 gather.carrier gather.memory gather.answers
