use Rattle.std.proofs.Common.{◌≡◌, ℕ, true, false, not, leb, rules}
use Rattle.std.proofs.lemmas.Iterator.{first_from_Range}
use Rattle.receiver.proofs.Searching.{found}
use Rattle.receiver.proofs.lines.HeldLine.first_wide.Goals as goal

pub returns : goal.returns
returns g c =
    let line = c.args.self.now in
    let test = λ (w : ℕ). not (leb ((g.C.Carrier.meaning line.carrier.now).word line.line w) 1023) in
    found test 1440 c.find.result
    (first_from_Range _ _ _ c.find.result (λ w. test w ≡ true) (λ w. test w ≡ false) c.find.ensures.ran (λ w q k. search rules) (λ w q k. search rules))
