use Rattle.std.proofs.Common.{◌≡◌, ℕ, true, false, Bool, not, rules}
use borrow.Author.Tests.{tests}
use Rattle.std.proofs.lemmas.Iterator.{first_from_Range}
use Rattle.carriers.specs.Meaning.{has}
use Rattle.sender.proofs.Searching.{line_found}
use Rattle.sender.proofs.searches.first_absent.Goals as goal

pub returns : goal.returns
returns g c =
    let lacks : ℕ → Bool = λ line. not (has (g.C.Carrier.meaning c.args.carrier.now) line 0) in
    line_found lacks 212 c.find.result
    (first_from_Range _ _ _ c.find.result (λ line. lacks line ≡ true) (λ line. lacks line ≡ false) c.find.ensures.ran (λ x q k. search (rules, tests)) (λ x q k. search (rules, tests)))
