use Rattle.std.proofs.Common.{◌≡◌, true, Ok, Err, Result, sym, ◌∙◌, rules}
use Rattle.std.specs.Result.{is_ok, MatchResult}
use Rattle.codec.specs.declared.record.MendRecord.{MendRecord}
use Rattle.denial.specs.Denials.{denied}
use Rattle.denial.specs.declared.Denial.{Denial}
use Rattle.receiver.proofs.Giving.{given, refused}
use Rattle.receiver.proofs.asks.give.Goals as goal

ok_kept : (E : Denial → Type 0) (q : Result MendRecord Denial) (k : MendRecord) → MatchResult q (λ x. ◌≡◌ {A = Result MendRecord Denial} (Ok k) (Ok x)) E →
    true ≡ is_ok q → q ≡ Ok k
ok_kept E (Ok x) k same ok = sym same
ok_kept E (Err e) k cases ok = cc

pub returns : goal.returns
returns c =
    let is : c.mend_block.result ≡ Ok c.in_ok-mends.mends = ok_kept _ _ _ c.in_ok-mends.ensures.cases c.in_ok-mends.ensures.variant in
    given c.args.memory.now c.args.name.packet c.args.name.channel c.args.place.now c.fits-memory c.mend_block.new.block c.mend_block.result
    (rw c.gather-block.ensures at c.mend_block.ensures) c.copy_from_slice.new.self c.in_ok-mends.mends is
    (c.copy_from_slice.ensures.after ∙ c.split_at.ensures.front)

pub returns-in_err-mends : goal.returns-in_err-mends
returns-in_err-mends c =
    let p = c.args.name.packet in
    let ch = c.args.name.channel in
    let is : (d : Denial) × (c.mend_block.result ≡ Err d) × (c.from_residual.result ≡ Err (denied d.reason d.layer p ch)) = search rules in
    refused c.args.memory.now p ch c.args.place.now c.fits-memory c.mend_block.new.block c.mend_block.result
    (rw c.gather-block.ensures at c.mend_block.ensures) is.0 c.from_residual.result is.1 is.2
