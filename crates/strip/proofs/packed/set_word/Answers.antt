use Rattle.std.proofs.Common.{◌≡◌, ℕ, ◌+◌, ◌-◌, ◌/◌, ◌%◌, ◌≢◌, List, get_or, rules}
use Rattle.std.proofs.lemmas.Slice.{overwrites}
use Rattle.std.proofs.lemmas.List.{places}
use borrow.Rule.Slice.PartMut.{put_mid}
use Rattle.strip.proofs.Bits.{put_others, word_is}
use Rattle.strip.proofs.packed.set_word.Goals as goal

pub returns : goal.returns
returns c =
    let bytes = c.args.bytes.now in
    let place = c.args.place in
    let byte = place + place / 4 in
    let old = c.pair_at in
    let new = c.with_word-pair in
    let after : List ℕ = put_mid byte (byte + 2 - byte) bytes c.copy_from_slice.new.self in
    let first : new.result % 256 ≡ get_or after byte 0 = search (rules, places) in
    let second : new.result / 256 ≡ get_or after (byte + 1) 0 = search (rules, places) in
    let rest : (k : ℕ) → k ≢ byte → k ≢ byte + 1 → get_or after k 0 ≡ get_or bytes k 0 = λ k a b. search (rules, places) in
    record {
      here = word_is after place new.result c.args.value first second c.requires.narrow new.ensures.word;
      there = put_others bytes after place old.result new.result old.ensures.first old.ensures.second first second rest new.ensures.below new.ensures.above;
      behind = λ n h. search (rules, overwrites);
    }
