use Rattle.std.proofs.Common.{rules, Ok, sym, ◌∙◌}
use Rattle.std.proofs.lemmas.Iterator.{YieldsList-from_slice}
use Rattle.std.proofs.lemmas.Iterator.Consumers.{fold_from_yields_List}
use Rattle.rehearse.specs.Numbers.{appended}
use Rattle.rehearse.proofs.Digits.{number_read}
use Rattle.rehearse.proofs.numbers.number_in.Goals as goal

pub returns : goal.returns
returns c =
    fold_from_yields_List _ (appended c.args.base) (Ok 0) c.fold.result c.fold.ensures.ran (YieldsList-from_slice c.args.digits.now cc)
    (λ a x b q k. search rules)
    ∙ sym (number_read c.args.base c.args.digits.now c.if-is_empty.ensures)
