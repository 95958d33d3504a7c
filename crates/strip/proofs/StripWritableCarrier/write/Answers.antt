use Rattle.std.proofs.Common.{◌≡◌, ◌/◌, length, ap, ◌∙◌}
use Rattle.carriers.proofs.Meanings.{run_placed}
use Rattle.carriers.specs.Runs.{run}
use Rattle.strip.specs.Packed.{word_at}
use Rattle.strip.proofs.StripWritableCarrier.write.Goals as goal

pub returns-clause-after : goal.returns-clause-after
returns-clause-after c =
    let s = c.args.self.now in
    let new = c.set_word.new.bytes in
    let size : length new ≡ length s.bytes.now = c.set_word.auto.bytes in
    ap (λ n. run s.first (n / 1800) (word_at new)) size
    ∙ run_placed s.first (length s.bytes.now / 1800) c.args.line c.args.word c.args.value c.in_ok-place.place (word_at s.bytes.now) (word_at new) c.in_ok-place.ensures
    c.set_word.ensures.here c.set_word.ensures.there
