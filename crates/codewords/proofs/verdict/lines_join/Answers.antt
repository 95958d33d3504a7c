use Rattle.codewords.proofs.Streams.{lines_join}
use Rattle.codewords.proofs.verdict.lines_join.Goals as goal

pub returns : goal.returns
returns c = lines_join
