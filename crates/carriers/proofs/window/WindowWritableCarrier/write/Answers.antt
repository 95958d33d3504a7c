use Rattle.carriers.proofs.Windows.{beside_written, seen_kept, seen_written}
use Rattle.carriers.proofs.window.WindowWritableCarrier.write.Goals as goal

pub returns-in_err-below-clause-after : goal.returns-in_err-below-clause-after
returns-in_err-below-clause-after g c =
    let s = c.args.self.now in
    seen_kept s.rate s.field (g.C.Carrier.meaning s.below) c.args.line c.args.word c.args.value _ c.in_err-below.ensures

pub returns-clause-after : goal.returns-clause-after
returns-clause-after g c =
    let s = c.args.self.now in
    seen_written s.rate s.field _ _ _ c.args.line c.args.word c.args.value c.in_ok-below.ensures c.write.ensures.after

pub returns-clause-beside : goal.returns-clause-beside
returns-clause-beside g c =
    let s = c.args.self.now in
    let hidden = beside_written s.rate s.field _ _ _ c.args.line c.args.word c.args.value c.in_ok-below.ensures c.write.ensures.after in
    λ i. (s.rate, s.field, hidden i, c.write.ensures.beside i)
