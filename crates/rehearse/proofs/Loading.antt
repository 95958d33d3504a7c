-- Blocks that are loaded one behind the other stand in a sender's memory as they were given.
use Rattle.std.proofs.Common.{◌≡◌, ℕ, ◌+◌, ◌*◌, ◌<◌, ◌≤◌, ◌⊎◌, Bool, true, false, cond, List, ◌++◌, length, take, drop, set, is_ok, None, Ok, Err, Result, sym, refl, ap, ◌∙◌, subst, inl, inr, true≢false, append_assoc, arith, length-append, drop-drop, drop_at, length-drop, length-take-le, take_all, take_at, take-add}
use lib.Seq.{take-set-le}
use Rattle.std.proofs.lemmas.Bool.{eqb-true}
use Rattle.std.specs.declared.slice.ChunksExact.{ChunksExact}
use Rattle.std.specs.Slice.Iter.{chunks_exact_rest, chunks_exact_size, chunks_exact_steps}
use Rattle.denial.specs.declared.Denial.{Denial}
use Rattle.layout.specs.Places.{ordinal_of}
use Rattle.sender.specs.Memory.{fits, load_at, stored}

-- What is not refused at the first test has passed it.
passed : (b : Bool) (x : Result (Unit {0}) Denial) (d : Denial) → is_ok (cond b x (Err d)) ≡ true → b ≡ true
passed true x d h = refl
passed false x d h = absurd (true≢false (sym h))

-- Memory that took a block has the length that a sender needs.
pub took_length : (m block : List ℕ) (packet channel : ℕ) (u : Unit {0}) → Ok u ≡ load_at m packet channel block → length m ≡ 298320
took_length m block packet channel u h = eqb-true (length m) 298320 (passed (fits m) _ _ (sym (ap is_ok h)))

-- The memory with block i stored, up to its end.
stored_front : (m block : List ℕ) (i : ℕ) → i < 1356 → length m ≡ 298320 → length block ≡ 219 →
    take (219 * i + 219) (set (take (219 * i) m ++ (block ++ drop (219 * i + 219) m)) (296964 + i) 1) ≡ take (219 * i) m ++ block
stored_front m block i h size full =
    let front = take (219 * i) m in
    let rest = drop (219 * i + 219) m in
    take-set-le (219 * i + 219) (front ++ (block ++ rest)) (296964 + i) 1 (omega (arith, h))
    ∙ ap (take (219 * i + 219)) (sym (append_assoc front block rest))
    ∙ take_at (front ++ block) rest (219 * i + 219)
    (omega (arith, length-append front block, length-take-le (219 * i) m (omega (arith, h, size)), full))

-- The block with so many before it in the stream, stored behind those.
pub loaded_on : (m n bs block rest : List ℕ) (i packet channel : ℕ) → i < 1356 → length m ≡ 298320 →
    ordinal_of packet channel ≡ i → drop (219 * i) bs ≡ block ++ rest → length block ≡ 219 → take (219 * i) m ≡ take (219 * i) bs →
    n ≡ stored m packet channel block → take (219 * (i + 1)) n ≡ take (219 * (i + 1)) bs
loaded_on m n bs block rest i packet channel h size index left whole front is =
    let next : 219 * (i + 1) ≡ 219 * i + 219 = omega arith in
    let there : take (219 * i + 219) n ≡ take (219 * i) m ++ block =
    ap (take (219 * i + 219)) (is ∙ ap (λ j. set (take (219 * j) m ++ (block ++ drop (219 * j + 219) m)) (296964 + j) 1) index)
    ∙ stored_front m block i h size whole in
    let taken : take 219 (drop (219 * i) bs) ≡ block = ap (take 219) left ∙ take_at block rest 219 whole in
    subst (λ j. take j n ≡ take j bs) (sym next)
    (there ∙ ap (λ r. r ++ block) front ∙ ap (λ r. take (219 * i) bs ++ r) (sym taken) ∙ sym (take-add (219 * i) 219 bs))

-- What is left behind it.
pub left_on : (bs block rest : List ℕ) (i : ℕ) → drop (219 * i) bs ≡ block ++ rest → length block ≡ 219 → rest ≡ drop (219 * (i + 1)) bs
left_on bs block rest i left whole =
    sym (ap (λ k. drop k bs) (omega arith) ∙ sym (drop-drop 219 (219 * i) bs) ∙ ap (drop 219) left ∙ drop_at block rest 219 whole)

-- Where there is no name more or no chunk more, every block was taken.
pub none_left : {Ended : Type 0} (bs : List ℕ) (i : ℕ) (s : ChunksExact ℕ) → length bs ≡ 296964 → chunks_exact_rest s ≡ drop (219 * i) bs →
    chunks_exact_size s ≡ 219 → (Ended → 1356 ≤ i) → Ended ⊎ ((t : ChunksExact ℕ) × chunks_exact_steps s None t) → 1356 ≤ i
none_left bs i s full left size named (inl ended) = named ended
none_left bs i s full left size named (inr (t, (same, (short, stays), rest))) =
    omega (arith, short, size, ap length left, length-drop (219 * i) bs, full)

pub loaded_all : (m bs : List ℕ) (i : ℕ) → i ≤ 1356 → 1356 ≤ i → length bs ≡ 296964 → take (219 * i) m ≡ take (219 * i) bs → take 296964 m ≡ bs
loaded_all m bs i low high full front =
    let all : 219 * i ≡ 296964 = omega (arith, low, high) in
    subst (λ j. take j m ≡ take j bs) all front ∙ take_all 296964 bs (omega (arith, full))
