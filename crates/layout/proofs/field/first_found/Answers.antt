use Rattle.layout.proofs.Firsts.{first_found}
use Rattle.layout.proofs.field.first_found.Goals as goal

pub returns : goal.returns
returns c = first_found
