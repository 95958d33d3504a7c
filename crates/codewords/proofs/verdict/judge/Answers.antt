use Rattle.std.proofs.Common.{◌≡◌, ℕ, List, length, Ok, Err, arith}
use Rattle.std.proofs.lemmas.Grind.{common_steps}
use Rattle.galois.specs.Fields.{gf256}
use Rattle.codec.specs.Mend.{places}
use Rattle.codec.specs.declared.record.MendRecord.{MendRecord}
use Rattle.denial.specs.declared.Denial.{Denial}
use Rattle.codewords.specs.Bytes.{AllNumbers, MendedBytes}
use Rattle.codewords.specs.Verdicts.{Judged, by_places}
use Rattle.codewords.specs.declared.verdict.Verdict.TheVariants.{Lost}
use Rattle.codewords.proofs.verdict.judge.Goals as goal

module _ (b after : List ℕ) (size : length b ≡ 224) (all : AllNumbers gf256 b) where
  mended : (m : MendRecord) → MendedBytes gf256 224 b after (Ok m) → Judged b (by_places (places m))
  mended m told = grind (arith, common_steps)

  lost : (d : Denial) → MendedBytes gf256 224 b after (Err d) → Judged b Lost
  lost d told = grind (arith, common_steps)

pub returns-in-Ok-mend_block : goal.returns-in-Ok-mend_block
returns-in-Ok-mend_block c =
    let whole = c.in-Ok.ensures.1 in
    rw c.into.ensures
    (mended c.args.block.now _ whole.long (λ i h. omega (arith, c.type_inv.block i)) _ (rw whole.same at c.in-Ok-mend_block.ensures))

pub returns-in-Err : goal.returns-in-Err
returns-in-Err c =
    let whole = c.in-Ok.ensures.1 in
    lost c.args.block.now _ whole.long (λ i h. omega (arith, c.type_inv.block i)) _ (rw whole.same at c.in-Err.ensures)
