use Rattle.sender.proofs.Passing.{edges_more}
use Rattle.sender.proofs.passes.FieldLines.put_edges.Goals as goal

pub returns-clause-after : goal.returns-clause-after
returns-clause-after g c =
    λ m e.
    edges_more c.args.line c.mark_word.result m _ _ _ _ _ c.mark_word.ensures e c.put.ensures.after c.put-2.ensures.after c.put-3.ensures.after c.put-4.ensures.after
