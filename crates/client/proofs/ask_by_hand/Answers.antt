use Rattle.std.proofs.Common.{sym, subst}
use Rattle.receiver.specs.Asks.{Asked}
use Rattle.transfer.proofs.Sending.{kept}
use Rattle.client.proofs.Concluding.{three_steps}
use Rattle.client.proofs.ask_by_hand.Goals as goal

pub returns : goal.returns
returns g c = λ accepted fit hp hc long.
    let plan = c.args.plan in
    let map = c.in_ok-map.ensures in
    let m = c.args.memory.now in
    let all = three_steps (g.C.Carrier.meaning c.map.new.carrier) (g.C.Carrier.meaning c.write.new.self) plan.line plan.word plan.value plan.first plan.second
    m c.begin-receiver.result.memory.now c.offer.new.self.memory.now c.offer-2.new.self.memory.now c.offer.result c.offer-2.result
    c.write.ensures.after c.begin-receiver.ensures.bytes c.offer.ensures.answer c.offer.ensures.after c.offer-2.ensures.answer c.offer-2.ensures.after in (
      map.after.0,
      map.after.1,
      kept c.args.sender.now.memory.now (g.C.Carrier.meaning c.args.carrier.now) _ _ m c.offer-2.new.self.memory.now (sym accepted) map.after.0 map.after.1 map.after.2 all fit
          c.args.packet c.args.channel hp hc c.args.place.now c.ask.new.place c.ask.result long
          (subst (λ x. Asked x c.args.packet c.args.channel c.args.place.now c.ask.new.place c.ask.result) c.close.ensures.bytes c.ask.ensures),
    )
