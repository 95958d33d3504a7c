use Rattle.codec.proofs.Answering.{mended_one_way}
use Rattle.codec.proofs.mender.mended_one_way.Goals as goal

pub returns : goal.returns
returns g c = mended_one_way
