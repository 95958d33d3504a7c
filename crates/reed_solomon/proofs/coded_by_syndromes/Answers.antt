use Rattle.reed_solomon.proofs.Factors.{coded_by_syndromes}
use Rattle.reed_solomon.proofs.coded_by_syndromes.Goals as goal

pub returns : goal.returns
returns g c = coded_by_syndromes
