-- What the mapped field carries of each block.
use Rattle.std.proofs.Common.{◌≡◌, ℕ, ◌+◌, ◌-◌, ◌*◌, ◌<◌, ◌≤◌, true, false, ◌&&◌, eqb, ltb, List, [], ◌∷◌, ◌++◌, length, get_or, take, Ok, sym, ap, ◌∙◌, subst, arith, take-take, take_at}
use Rattle.std.proofs.lemmas.List.{length-append, length-map}
use Rattle.std.proofs.lemmas.Bool.Decides.{nat_tests}
use Rattle.carriers.specs.Meaning.{Meaning}
use Rattle.codewords.proofs.Mends.{all_numbers}
use Rattle.codewords.specs.Blocks.{BlockOf}
use Rattle.codewords.specs.Bytes.{CodedBytes}
use Rattle.galois.specs.Elements.{laws256}
use Rattle.galois.specs.Fields.{gf256}
use Rattle.layout.specs.Mapped.{Blocks, stream_byte}
use Rattle.layout.specs.Places.{byte_line, stream_place, word_of}
use Rattle.layout.specs.Words.{received_byte, sent_word}
use Rattle.sender.proofs.Blocks.{block_length}
use Rattle.sender.proofs.Passing.{byte_is}
use Rattle.sender.specs.Mapping.{CodedBlocks, map_at, with_field}
use Rattle.sender.specs.Memory.{block_at}
use Rattle.transfer.proofs.Keeping.{Carries, promise}
use Rattle.transfer.specs.Answers.{Answer, Answers}
use Rattle.transfer.specs.Kept.{Done, KeptPromise}
use Rattle.transfer.specs.Runs.{Gathered}
use Rattle.transfer.specs.Steps.{after_steps}
use Rattle.transfer.specs.declared.steps.Step.{Step}

-- A coded block has 224 bytes.
pub coded_length : (v : List ℕ) → CodedBytes gf256 224 v → length v ≡ 224
coded_length v k = ap length (sym k.numbers) ∙ length-map k.word gf256.number ∙ k.coded.size

coded_byte : (v : List ℕ) → CodedBytes gf256 224 v → (j : ℕ) → j < 224 → get_or v j 0 < 256
coded_byte v k j h =
    subst (λ b. (i : ℕ) → i < length b → get_or b i 0 < 256) k.numbers (all_numbers gf256 laws256 k.word) j (omega (arith, coded_length v k))

byte_back : (b : ℕ) → b < 256 → received_byte (sent_word b) ≡ b
byte_back b h = omega arith

-- It begins with the bytes loaded.
pub begins_loaded : (b v : List ℕ) → length b ≡ 219 → BlockOf b v → take 219 v ≡ b
begins_loaded b v h k =
    let whole : length (b ++ 0 ∷ []) ≡ 220 = length-append b (0 ∷ []) ∙ ap (λ n. n + 1) h in
    let front : take 220 v ≡ b ++ 0 ∷ [] = subst (λ n. take n v ≡ b ++ 0 ∷ []) whole k.begins in
    sym (take-take 219 220 v (omega arith)) ∙ ap (take 219) front ∙ take_at b (0 ∷ []) 219 h

pub carries : (coded : Blocks) (before : Meaning) (p c : ℕ) → p ≤ 677 → c ≤ 1 → CodedBytes gf256 224 (coded p c) →
    Carries (with_field coded before) p c (coded p c)
carries coded before p c hp hc k j h =
    let q = stream_place p c j in
    let l = byte_line p c j in
    let w = word_of q in
    let inside : (ltb l 212 && ltb w 1440) ≡ true = grind (arith, nat_tests) in
    let no-type : eqb w 0 ≡ false = grind (arith, nat_tests) in
    let no-mark : eqb w 1 ≡ false = grind (arith, nat_tests) in
    let stream : (ltb w 1438 && ltb (1436 * l + (w - 2)) 303744) ≡ true = grind (arith, nat_tests) in
    let place : 1436 * l + (w - 2) ≡ q = omega arith in
    rw (inside, no-type, no-mark, stream)
    (ap (λ x. received_byte (sent_word (stream_byte coded x))) place
    ∙ ap (λ x. received_byte (sent_word x)) (byte_is coded p c j q hc h (omega arith)) ∙ byte_back (get_or (coded p c) j 0) (coded_byte (coded p c) k j h))

map_fits : (m : List ℕ) (c : Meaning) → Ok tt ≡ map_at m c → length m ≡ 298320
map_fits m c e = grind (arith, nat_tests)

-- The promise is kept for a field that was mapped.
pub kept : (loaded : List ℕ) (before mapped : Meaning) (steps : List Step) (m m' : List ℕ) → Ok tt ≡ map_at loaded before →
    (coded : Blocks) → CodedBlocks loaded coded → mapped ≡ with_field coded before → Gathered mapped steps m m' → length m ≡ 304644 →
    KeptPromise (with_field coded before) loaded coded steps m'
kept loaded before mapped steps m m' accepted coded blocks is gathered fit p c hp hc place given r long asked =
    let field = with_field coded before in
    let all : Gathered field steps m m' = subst (λ x. Gathered x steps m m') is gathered in
    let size = map_fits loaded before accepted in
    let block = blocks p c hp hc in
    promise field steps m m' fit all p c hp hc place given r (block_at loaded p c) (coded p c) (coded_length (coded p c) block.coded)
    (begins_loaded (block_at loaded p c) (coded p c) (block_length loaded p c size hp hc) block) block.coded
    (carries coded before p c hp hc block.coded) long asked

-- The whole transfer.
pub done : (loaded : List ℕ) (before mapped after : Meaning) (steps : List Step) (m m' : List ℕ) (was now : List Answer) →
    Ok tt ≡ map_at loaded before → (coded : Blocks) → CodedBlocks loaded coded → mapped ≡ with_field coded before →
    after ≡ after_steps mapped steps → Gathered mapped steps m m' → Answers mapped steps (length m) was now →
    Done loaded before after steps m m' was now
done loaded before mapped after steps m m' was now accepted coded blocks is carrier gathered answers = record {
  coded = coded;
  blocks = blocks;
  carrier = carrier ∙ ap (λ x. after_steps x steps) is;
  gathered = subst (λ x. Gathered x steps m m') is gathered;
  answers = subst (λ x. Answers x steps (length m) was now) is answers;
  promise = kept loaded before mapped steps m m' accepted coded blocks is gathered;
}
