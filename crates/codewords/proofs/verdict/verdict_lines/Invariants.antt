use Rattle.std.proofs.Common.{◌≡◌, ℕ, List, ◌++◌, string_bytes}
use Rattle.std.specs.Slice.Iter.{chunks_rest, chunks_size}
use Rattle.codewords.specs.Verdicts.{Lines}
use Rattle.codewords.proofs.verdict.verdict_lines.Given as goal

-- whatever the lines of the rest are, they complete the text
abbrev pub invariant-loop-block : goal.invariant-loop-block
invariant-loop-block l = record {
  size : chunks_size l.block-iterator ≡ 224;
  lines : (t : List ℕ) → Lines l.ordinal (chunks_rest l.block-iterator) t → Lines l.first l.bytes (string_bytes l.text ++ t);
}
