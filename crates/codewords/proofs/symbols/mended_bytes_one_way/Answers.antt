use Rattle.codewords.proofs.Mends.{mended_bytes_one_way}
use Rattle.codewords.proofs.symbols.mended_bytes_one_way.Goals as goal

pub returns : goal.returns
returns g c = mended_bytes_one_way
