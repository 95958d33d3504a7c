use Rattle.std.proofs.Common.{◌≡◌, true, false, eqb, None, ◌∙◌, sym, rules}
use borrow.Author.Tests.{tests}
use Rattle.std.proofs.lemmas.Iterator.{IsFirst-from_position, YieldsList-from_slice}
use Rattle.sender.specs.Mapping.{unloaded}
use Rattle.sender.proofs.Searching.{mark_found, marks_of, named}
use Rattle.sender.proofs.searches.first_unloaded.Goals as goal

pub returns-in_err-ordinal : goal.returns-in_err-ordinal
returns-in_err-ordinal c =
    let found =
    mark_found c.args.memory.now c.position.result c.told-memory
    (IsFirst-from_position _ _ c.position.result (λ x. eqb x 0 ≡ true) (λ x. eqb x 0 ≡ false) c.position.ensures.ran
    (YieldsList-from_slice (marks_of c.args.memory.now) c.iter.ensures.rest) (λ x q k. search (rules, tests)) (λ x q k. search (rules, tests))) in
    let none : unloaded c.args.memory.now ≡ None = sym found ∙ c.in_err-ordinal.was in
    rw c.from_residual.ensures none

pub returns : goal.returns
returns c =
    let found =
    mark_found c.args.memory.now c.position.result c.told-memory
    (IsFirst-from_position _ _ c.position.result (λ x. eqb x 0 ≡ true) (λ x. eqb x 0 ≡ false) c.position.ensures.ran
    (YieldsList-from_slice (marks_of c.args.memory.now) c.iter.ensures.rest) (λ x q k. search (rules, tests)) (λ x q k. search (rules, tests))) in
    named c.args.memory.now c.in_ok-ordinal.ordinal c.at.result (sym found ∙ c.in_ok-ordinal.was) c.at.ensures
