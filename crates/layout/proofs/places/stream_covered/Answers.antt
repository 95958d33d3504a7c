use Rattle.layout.proofs.Stream.{stream_covered}
use Rattle.layout.proofs.places.stream_covered.Goals as goal

pub returns : goal.returns
returns c = stream_covered
