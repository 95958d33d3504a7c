use Rattle.codewords.proofs.Coding.{label_made}
use Rattle.codewords.proofs.label.make_label.Goals as goal

pub returns : goal.returns
returns c =
    label_made c.args.digits.now _ _ _ c.make_bytes.ensures.wrong_length c.make_bytes.ensures.wrong_place c.make_bytes.ensures.made
