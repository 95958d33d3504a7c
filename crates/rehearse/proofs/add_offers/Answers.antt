use Rattle.std.proofs.Common.{rules, refl}
use Rattle.std.proofs.lemmas.Iterator.{YieldsList-from_map, YieldsList-from_range}
use Rattle.std.proofs.lemmas.Iterator.Adapters.{items_from_extend}
use Rattle.transfer.specs.declared.steps.Step.TheVariants.{Offer}
use Rattle.rehearse.proofs.add_offers.Goals as goal

pub returns : goal.returns
returns c =
    let offered =
    items_from_extend c.extend.result c.extend.ensures.ran
    (YieldsList-from_map _ Offer (YieldsList-from_range 0 212 212 c.map.ensures.source refl) c.map.ensures.closure (λ x r q k. search rules)) in
    search rules
