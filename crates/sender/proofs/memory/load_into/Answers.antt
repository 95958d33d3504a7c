use Rattle.std.proofs.Common.{◌≡◌, ℕ, ◌+◌, ◌≢◌, true, List, length, get_or, Err, sym, ap, ◌∙◌, arith}
use Rattle.std.proofs.lemmas.Bool.Decides.{nat_tests}
use Rattle.denial.specs.Denials.{denied}
use Rattle.denial.specs.declared.Layer.TheVariants.{Field}
use Rattle.denial.specs.declared.Reason.TheVariants.{Length, Loaded}
use Rattle.layout.specs.Places.{is_block, ordinal_of}
use Rattle.sender.specs.Memory.{load_at}
use Rattle.sender.proofs.memory.load_into.Goals as goal

unfit_block : (m : List ℕ) (p c : ℕ) (b : List ℕ) → length m ≡ 298320 → is_block p c ≡ true → length b ≢ 219 →
    load_at m p c b ≡ Err (denied Length Field (length b) 0)
unfit_block m p c b size known long = grind (arith, nat_tests)

loaded_block : (m : List ℕ) (p c p' c' : ℕ) (b : List ℕ) → length m ≡ 298320 → (is_block p c ≡ true) × (p' ≡ p) × (c' ≡ c) → length b ≡ 219 →
    get_or m (296964 + ordinal_of p' c') 0 ≢ 0 →
    load_at m p c b ≡ Err (denied Loaded Field p' c')
loaded_block m p c p' c' b size (known, hp, hc) long taken = rw (hp, hc) (grind (arith, nat_tests))

pub returns-in_default-as_array-clause-answer : goal.returns-in_default-as_array-clause-answer
returns-in_default-as_array-clause-answer c =
    ap Err c.new-in_default-as_array.ensures
    ∙ sym (unfit_block c.args.memory.now c.args.packet c.args.channel c.args.block.now c.in-Some.ensures.cases.long c.in_ok-name.ensures.0 c.in_default-as_array.ensures.cases)

pub returns-then-memory-ordinal-ne0-clause-answer : goal.returns-then-memory-ordinal-ne0-clause-answer
returns-then-memory-ordinal-ne0-clause-answer c =
    let m = c.args.memory.now in
    let name = c.in_ok-name.name in
    let taken : get_or m (296964 + ordinal_of name.packet name.channel) 0 ≢ 0 = λ e. c.if-memory-ordinal-ne0.true (rw (c.in-Some.ensures.cases.same, c.ordinal.ensures) e) in
    ap Err c.refused.ensures
    ∙ sym (loaded_block m c.args.packet c.args.channel name.packet name.channel c.args.block.now c.in-Some.ensures.cases.long c.in_ok-name.ensures c.in-Some-as_array.ensures.cases.long taken)
