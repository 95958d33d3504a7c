use Rattle.std.proofs.Common.{ap, ◌∙◌}
use Rattle.sender.specs.Passes.{with_edges, with_filling}
use Rattle.sender.proofs.Passing.{passes_all}
use Rattle.sender.proofs.mapping.map_field.Goals as goal

pub returns-clause-after : goal.returns-clause-after
returns-clause-after g c =
    λ coded blocks.
    c.put_filling.ensures.after
    ∙ ap (with_filling 1438) (c.put_all_edges.ensures.after ∙ ap (with_edges 212) (c.map_stream.ensures.after coded blocks))
    ∙ passes_all coded _
