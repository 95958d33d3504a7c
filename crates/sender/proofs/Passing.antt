-- Each pass goes on by the word that is set.
use Rattle.std.proofs.Common.{◌≡◌, ℕ, ◌+◌, ◌-◌, ◌*◌, ◌/◌, ◌%◌, ◌<◌, ◌≤◌, true, false, not, ◌&&◌, eqb, ltb, leb, ◌⊎◌, List, get_or, None, sym, refl, ap, ◌∙◌, inl, inr, arith}
use Rattle.std.proofs.lemmas.Bool.{cases_Bool}
use Rattle.std.proofs.lemmas.Bool.Decides.{nat_tests}
use Rattle.carriers.proofs.Meanings.{same_meaning}
use Rattle.carriers.specs.Meaning.{has, Meaning}
use Rattle.layout.proofs.Firsts.{first_found}
use Rattle.layout.specs.Mapped.{Blocks, mark_word, stream_byte}
use Rattle.layout.specs.Words.{sent_word}
use Rattle.sender.specs.Mapping.{absent, with_field}
use Rattle.sender.specs.Passes.{with_edges, with_filling, with_stream, with_word}

pub stream_more : (coded : Blocks) (q : ℕ) (c : Meaning) (value : ℕ) → value ≡ sent_word (stream_byte coded q) →
    with_word (q / 1436) (2 + q % 1436) value (with_stream coded q c) ≡ with_stream coded (q + 1) c
stream_more coded q c value is = same_meaning refl refl (λ l w. at_place l w (cases_Bool (eqb l (q / 1436) && eqb w (2 + q % 1436))))
  where
    at_place : (l w : ℕ) → ((eqb l (q / 1436) && eqb w (2 + q % 1436)) ≡ true) ⊎ ((eqb l (q / 1436) && eqb w (2 + q % 1436)) ≡ false) →
        (with_word (q / 1436) (2 + q % 1436) value (with_stream coded q c)).word l w ≡ (with_stream coded (q + 1) c).word l w
    at_place l w (inl e) =
        let place : 1436 * l + (w - 2) ≡ q = grind (arith, nat_tests) in
        let inside : (leb 2 w && (ltb w 1438 && ltb (1436 * l + (w - 2)) (q + 1))) ≡ true = grind (arith, nat_tests) in
        rw (e, inside) (is ∙ ap (λ k. sent_word (stream_byte coded k)) (sym place))
    at_place l w (inr e) =
        let same : (leb 2 w && (ltb w 1438 && ltb (1436 * l + (w - 2)) q)) ≡ (leb 2 w && (ltb w 1438 && ltb (1436 * l + (w - 2)) (q + 1))) = grind (arith, nat_tests) in
        rw (e, same)

edges_are : (n : ℕ) (c : Meaning) →
    with_word n 1439 0x200 (with_word n 1438 0x200 (with_word n 1 (mark_word n) (with_word n 0 0x248 (with_edges n c)))) ≡ with_edges (n + 1) c
edges_are n c = same_meaning refl refl (λ l w. at_place l w (cases_Bool (eqb l n)))
  where
    at_place : (l w : ℕ) → (eqb l n ≡ true) ⊎ (eqb l n ≡ false) →
        (with_word n 1439 0x200 (with_word n 1438 0x200 (with_word n 1 (mark_word n) (with_word n 0 0x248 (with_edges n c))))).word l w ≡ (with_edges (n + 1) c).word l w
    at_place l w (inl e) = grind (arith, nat_tests)
    at_place l w (inr e) = grind (arith, nat_tests)

-- The four words of line n, one after the other.
pub edges_more : (n mark : ℕ) (m v w x y z : Meaning) → mark ≡ mark_word n → v ≡ with_edges n m →
    w ≡ with_word n 0 0x248 v → x ≡ with_word n 1 mark w → y ≡ with_word n 1438 0x200 x → z ≡ with_word n 1439 0x200 y →
    z ≡ with_edges (n + 1) m
edges_more n mark m v w x y z is hv hw hx hy hz = hz ∙ rw (hy, hx, hw, hv, is) (edges_are n m)

-- The byte of a packet's block from a channel.
pub byte_is : (coded : Blocks) (p c j q : ℕ) → c ≤ 1 → j < 224 → q ≡ 448 * p + 2 * j + (1 - c) → stream_byte coded q ≡ get_or (coded p c) j 0
byte_is coded p c j q hc hj e =
    let a : q / 448 ≡ p = omega arith in
    let b : 1 - q % 2 ≡ c = omega arith in
    let d : q % 448 / 2 ≡ j = omega arith in
    rw (a, b, d)

-- A byte of each block of a packet, a and b, at place n of the blocks.
pub packet_more : (coded : Blocks) (p j n a b : ℕ) (m x y z : Meaning) (even odd : List ℕ) → (j < 224) × (n ≡ j) × (a ≡ get_or even j 0) × (b ≡ get_or odd j 0) →
    coded p 1 ≡ even → coded p 0 ≡ odd →
    x ≡ with_stream coded (448 * p + 2 * j) m →
    y ≡ with_word ((448 * p + 2 * n) / 1436) (2 + (448 * p + 2 * n) % 1436) (sent_word a) x →
    z ≡ with_word ((448 * p + 2 * n + 1) / 1436) (2 + (448 * p + 2 * n + 1) % 1436) (sent_word b) y →
    z ≡ with_stream coded (448 * p + 2 * (j + 1)) m
packet_more coded p j n a b m x y z even odd (hj, hn, ha, hb) he ho hx hy hz =
    let q = 448 * p + 2 * j in
    let at-even : sent_word (get_or even j 0) ≡ sent_word (stream_byte coded q) =
    ap (λ v. sent_word (get_or v j 0)) (sym he) ∙ ap sent_word (sym (byte_is coded p 1 j q (omega arith) hj (omega arith))) in
    let at-odd : sent_word (get_or odd j 0) ≡ sent_word (stream_byte coded (q + 1)) =
    ap (λ v. sent_word (get_or v j 0)) (sym ho) ∙ ap sent_word (sym (byte_is coded p 0 j (q + 1) (omega arith) hj (omega arith))) in
    let y-is : y ≡ with_stream coded (q + 1) m =
    (rw (hn, ha) at hy) ∙ ap (with_word (q / 1436) (2 + q % 1436) (sent_word (get_or even j 0))) hx ∙ stream_more coded q m _ at-even in
    let next : q + 1 + 1 ≡ 448 * p + 2 * (j + 1) = omega arith in
    (rw (hn, hb) at hz) ∙ ap (with_word ((q + 1) / 1436) (2 + (q + 1) % 1436) (sent_word (get_or odd j 0))) y-is ∙ stream_more coded (q + 1) m _ at-odd
    ∙ ap (λ k. with_stream coded k m) next

-- The three passes together write the field.
pub passes_all : (coded : Blocks) (c : Meaning) →
    with_filling 1438 (with_edges 212 (with_stream coded 303744 c)) ≡ with_field coded c
passes_all coded c = same_meaning refl refl (λ l w. at_place l w (cases_Bool (ltb l 212 && ltb w 1440)))
  where
    at_place : (l w : ℕ) → ((ltb l 212 && ltb w 1440) ≡ true) ⊎ ((ltb l 212 && ltb w 1440) ≡ false) →
        (with_filling 1438 (with_edges 212 (with_stream coded 303744 c))).word l w ≡ (with_field coded c).word l w
    at_place l w (inl h) = grind (arith, nat_tests)
    at_place l w (inr h) = grind (arith, nat_tests)

-- A carrier that lacks no line of a field has them all.
pub lacks_none : (c : Meaning) → absent c ≡ None → (c.first ≡ 0) × (212 ≤ c.end)
lacks_none c e =
    let all = (first_found.none (λ line. not (has c line 0)) 212).0 e in
    let a = all 0 (omega arith) in
    let b = all 211 (omega arith) in
    (grind (arith, nat_tests), grind (arith, nat_tests))
