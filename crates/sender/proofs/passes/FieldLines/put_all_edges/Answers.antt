use Rattle.std.proofs.Common.{◌∙◌}
use Rattle.sender.proofs.passes.FieldLines.put_all_edges.Goals as goal

pub loop-line-preserved : goal.loop-line-preserved
loop-line-preserved g c =
    let inv = c.loop-line.invariant in
    let one = c.put_edges.ensures in
    record { beside = one.beside ∙ inv.beside; after = one.after _ inv.after }
