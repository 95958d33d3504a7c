use Rattle.codewords.proofs.Coding.{one_block}
use Rattle.codewords.proofs.block.one_block.Goals as goal

pub returns : goal.returns
returns c = one_block
