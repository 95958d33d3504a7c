use Rattle.std.proofs.Common.{◌≡◌, ◌+◌, ◌*◌, ap, ◌∙◌, sym, length, arith}
use Rattle.std.proofs.lemmas.Iterator.{YieldsList-from_slice, YieldsList-from_zip}
use Rattle.std.proofs.lemmas.Iterator.Consumers.{YieldsList-from_enumerate, YieldsList-turn, YieldsList-end}
use Rattle.std.proofs.lemmas.List.{length_push}
use Rattle.sender.specs.Passes.{with_stream}
use Rattle.sender.proofs.Pairs.{pair_at, pairs_length}
use Rattle.sender.proofs.Passing.{packet_more}
use Rattle.sender.proofs.passes.FieldLines.put_packet.Goals as goal

pub loop-j-preserved : goal.loop-j-preserved
loop-j-preserved g c =
    let inv = c.loop-j.invariant in
    let one = c.put_byte.ensures in
    let two = c.put_byte-in-loop-j.ensures in
    let turn =
    pair_at c.args.even.now c.args.odd.now (length c.loop-j.yielded) c.in-Some.j c.in-Some.even_byte.now c.in-Some.odd_byte.now (omega arith)
    (YieldsList-turn
    (YieldsList-from_enumerate {s = c.into_iter-j-iterator.result}
    (YieldsList-from_zip (YieldsList-from_slice c.args.even.now (cc)) (YieldsList-from_slice c.args.odd.now (cc)))
    (cc))
    c.loop-j.yielded _ c.loop-j.yielded_by _ c.next.new.self (c.in-Some.j, (c.in-Some.even_byte, c.in-Some.odd_byte)) c.in-Some.is c.next.ensures.steps) in
    record {
      beside = two.beside ∙ one.beside ∙ inv.beside;
      after = λ coded m even odd before.
          packet_more coded c.args.packet (length c.loop-j.yielded) _ _ _ m _ _ _ c.args.even.now c.args.odd.now
          (omega (arith, turn.0), turn.1, turn.2, turn.3)
          even odd (inv.after coded m even odd before) one.after two.after
          ∙ ap (λ k. with_stream coded (448 * c.args.packet + 2 * k) m) (sym (length_push c.loop-j.yielded _));
    }

pub returns-clause-after : goal.returns-clause-after
returns-clause-after g c =
    let ended =
    YieldsList-end
    (YieldsList-from_enumerate {s = c.into_iter-j-iterator.result}
    (YieldsList-from_zip (YieldsList-from_slice c.args.even.now (cc)) (YieldsList-from_slice c.args.odd.now (cc)))
    (cc))
    c.loop-j.yielded _ c.loop-j.yielded_by _ c.next.new.self c.in-None.is c.next.ensures.steps in
    let all : 448 * c.args.packet + 2 * length c.loop-j.yielded ≡ 448 * c.args.packet + 448 =
    omega (arith, ended.1, pairs_length c.args.even.now c.args.odd.now (omega arith)) in
    λ coded m even odd before. c.loop-j.invariant.after coded m even odd before ∙ ap (λ q. with_stream coded q m) all
