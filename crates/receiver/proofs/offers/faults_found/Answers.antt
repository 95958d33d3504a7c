use Rattle.receiver.proofs.Faults.{faults_found}
use Rattle.receiver.proofs.offers.faults_found.Goals as goal

pub returns : goal.returns
returns c = faults_found
