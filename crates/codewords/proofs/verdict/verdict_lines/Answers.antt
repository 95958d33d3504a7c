use Rattle.std.proofs.Common.{◌≡◌, [], ◌++◌, string_bytes, ◌∙◌, append_assoc, append-nil}
use Rattle.std.proofs.lemmas.List.{nil_from_length}
use Rattle.std.specs.Slice.Iter.{chunks_rest}
use Rattle.codewords.specs.Verdicts.{none}
use Rattle.codewords.proofs.Streams.{lines_more}
use Rattle.codewords.proofs.verdict.verdict_lines.Goals as goal

pub loop-block-preserved : goal.loop-block-preserved
loop-block-preserved c =
    let kept = c.loop-block.invariant in
    let step = c.in-Some.ensures.steps in
    let rest = chunks_rest c.next.new.self in
    let apart : chunks_rest c.loop-block.block-iterator ≡ c.in-Some.block.now ++ rest = step.1.0 in
    let line = string_bytes c.in_ok-line.line in
    record {
      size = step.0 ∙ kept.size;
      lines = λ t lines.
          rw (c.in_ok-push_str.ensures.bytes, c.as_str.ensures.value, append_assoc (string_bytes c.loop-block.text) line t)
          (kept.lines (line ++ t) (rw apart (lines_more c.loop-block.ordinal c.in-Some.block.now rest line t (rw apart at step.1.2) (rw (apart, kept.size) at step.1.1) c.in_ok-line.ensures lines)));
    }

pub returns : goal.returns
returns c =
    let rest = chunks_rest c.loop-block.block-iterator in
    let ended : rest ≡ [] = nil_from_length rest c.in-None.ensures.steps.1.0 in
    rw append-nil at (c.loop-block.invariant.lines [] (rw ended (none c.loop-block.ordinal)))
