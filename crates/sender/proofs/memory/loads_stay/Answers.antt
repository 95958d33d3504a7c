use Rattle.sender.proofs.Loading.{loads_stay}
use Rattle.sender.proofs.memory.loads_stay.Goals as goal

pub returns : goal.returns
returns c = loads_stay
