use Rattle.std.proofs.Common.{◌≡◌, ◌*◌, ◌++◌, ◌∙◌, take, drop, sym, ap, subst, length, arith}
use Rattle.rehearse.proofs.Loading.{left_on, loaded_all, loaded_on, none_left, took_length}
use Rattle.rehearse.proofs.Naming.{named_all, named_on}
use Rattle.rehearse.proofs.blocks.load_all.Goals as goal

pub loop-name-preserved : goal.loop-name-preserved
loop-name-preserved c =
    let m = c.loop-name.sender.memory.now in
    let bs = c.args.blocks.now in
    let block = c.in-Some.block.now in
    let i = c.loop-name.name-iterator.a.iter.start in
    let after = c.next.new.self in
    let inv = c.loop-name.invariant in
    let step = c.in-Some.ensures.steps in
    let (below, index, next, end) =
    named_on _ (λ p q i r k. k.met) c.loop-name.name-iterator.a after.a c.in-Some.name inv.end step.0 in
    let (kept, (cut, long), rest) = step.1 in
    let left : drop (219 * i) bs ≡ block ++ after.b.rest.now = sym inv.left ∙ cut in
    let whole : length block ≡ 219 = long ∙ inv.size in
    let stored =
    loaded_on m c.load.new.self.memory.now bs block after.b.rest.now i c.packet.result c.channel.result below
    (took_length m block c.packet.result c.channel.result c.in_ok-load.field-0 c.in_ok-load.ensures.answer)
    (omega (arith, index, c.packet.ensures, c.channel.ensures)) left whole inv.stored c.in_ok-load.ensures.after in
    record {
      stored = subst (λ j. take (219 * j) c.load.new.self.memory.now ≡ take (219 * j) bs) (sym next) stored;
      within = omega (arith, next, below);
      end = end;
      left = left_on bs block after.b.rest.now i left whole ∙ ap (λ j. drop (219 * j) bs) (sym next);
      size = kept ∙ inv.size;
    }

pub returns : goal.returns
returns c =
    let bs = c.args.blocks.now in
    let s = c.loop-name.name-iterator in
    let inv = c.loop-name.invariant in
    let last =
    none_left bs s.a.iter.start s.b c.if-blocks.false inv.left inv.size
    (λ u. named_all _ (λ p q i r k. k.met) s.a u.0 inv.end u.1) c.in-None.ensures.steps in
    loaded_all c.loop-name.sender.memory.now bs s.a.iter.start inv.within last c.if-blocks.false inv.stored
