use Rattle.std.proofs.Common.{◌≡◌, ◌*◌, ◌≤◌, take, drop}
use Rattle.rehearse.proofs.blocks.load_all.Given as goal

-- the blocks before the next name stand at the front, and those from it on are left
abbrev pub invariant-loop-name : goal.invariant-loop-name
invariant-loop-name l =
    let names = l.name-iterator.a.iter in
    let chunks = l.name-iterator.b in
    record {
      stored : take (219 * names.start) l.sender.memory.now ≡ take (219 * names.start) l.blocks;
      within : names.start ≤ 1356;
      end : names.end ≡ 1356;
      left : chunks.rest.now ≡ drop (219 * names.start) l.blocks;
      size : chunks.size ≡ 219;
    }
