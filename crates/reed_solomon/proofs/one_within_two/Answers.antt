use Rattle.reed_solomon.proofs.Distance.{one_within_two}
use Rattle.reed_solomon.proofs.one_within_two.Goals as goal

pub returns : goal.returns
returns g c = one_within_two
