-- What one offer makes of each line.
use Rattle.std.proofs.Common.{◌≡◌, ℕ, ◌+◌, ◌-◌, ◌*◌, ◌<◌, ◌≤◌, true, false, ◌&&◌, eqb, ltb, leb, ◌⊎◌, List, length, get_or, Some, None, Ok, Err, Option, Result, sym, refl, ap, ◌∙◌, subst, inl, inr, arith}
use Rattle.std.proofs.lemmas.Bool.{cases_eq, cases_lt, eq-eqb, eqb-true, le-leb, leb-true}
use Rattle.std.proofs.lemmas.Bool.Decides.{nat_tests}
use Rattle.carriers.specs.Meaning.{has, Meaning}
use Rattle.denial.specs.declared.Denial.{Denial}
use Rattle.layout.specs.Words.{received_byte}
use Rattle.receiver.proofs.Faults.{faults_found}
use Rattle.receiver.specs.Memory.{fits, is_free}
use Rattle.receiver.specs.Offers.{by_fault, fault, offer_at, Offered, taken_byte}
use Rattle.transfer.specs.Runs.{Kept, line_byte, mark_of, Taken}
use Rattle.transfer.specs.Steps.{SoundLine}

-- What an accepted offer has tested.
record Allowed (m : List ℕ) (c : Meaning) (k : ℕ) : Type 0 where
  size : length m ≡ 304644
  low : k ≤ 211
  free : mark_of m k ≡ 0
  sound : SoundLine c k

no_fault : (o : Option Denial) → Ok tt ≡ by_fault o → o ≡ None
no_fault None e = refl
no_fault (Some d) e = cc

passes : (m : List ℕ) (c : Meaning) (k : ℕ) → fits m ≡ true → leb k 211 ≡ true → is_free m k ≡ true → has c k 0 ≡ true →
    offer_at m c k ≡ by_fault (fault (c.word k) k)
passes m c k size low free here = rw (size, low, free, here)

allowed : (m : List ℕ) (c : Meaning) (k : ℕ) → Ok tt ≡ offer_at m c k → Allowed m c k
allowed m c k e =
    let size : fits m ≡ true = grind (arith, nat_tests) in
    let low : leb k 211 ≡ true = grind (arith, nat_tests) in
    let free : is_free m k ≡ true = grind (arith, nat_tests) in
    let here : has c k 0 ≡ true = grind (arith, nat_tests) in
    record {
      size = eqb-true _ _ size;
      low = leb-true _ _ low;
      free = eqb-true _ _ free;
      sound = record { here = here; sound = (faults_found (c.word k) k).0 (no_fault _ (e ∙ passes m c k size low free here)) };
    }

-- An offer that has them is accepted.
accepted : (m : List ℕ) (c : Meaning) (k : ℕ) → Allowed m c k → offer_at m c k ≡ Ok tt
accepted m c k a =
    passes m c k (eq-eqb _ _ a.size) (le-leb _ _ a.low) (eq-eqb _ _ a.free) a.sound.here
    ∙ ap by_fault ((faults_found (c.word k) k).1 a.sound.sound)

-- The mark and the bytes of the line that was taken, and any other byte.
taken_mark : (m : List ℕ) (word : ℕ → ℕ) (n : ℕ) → taken_byte m word n (304432 + n) ≡ 1
taken_mark m word n = grind (arith, nat_tests)

taken_line : (m : List ℕ) (word : ℕ → ℕ) (n j : ℕ) → n ≤ 211 → j < 1436 → taken_byte m word n (1436 * n + j) ≡ received_byte (word (2 + j))
taken_line m word n j low h =
    let there : 1436 * n + j - 1436 * n ≡ j = omega arith in
    let no-mark : eqb (1436 * n + j) (304432 + n) ≡ false = grind (arith, nat_tests) in
    let inside : (leb (1436 * n) (1436 * n + j) && ltb (1436 * n + j) (1436 * n + 1436)) ≡ true = grind (arith, nat_tests) in
    rw (no-mark, inside) (ap (λ k. received_byte (word (2 + k))) there)

taken_else : (m : List ℕ) (word : ℕ → ℕ) (n i : ℕ) → (i ≡ 304432 + n → ⊥) → (i < 1436 * n) ⊎ (1436 * n + 1436 ≤ i) → taken_byte m word n i ≡ get_or m i 0
taken_else m word n i ne (inl h) = grind (arith, nat_tests)
taken_else m word n i ne (inr h) = grind (arith, nat_tests)

-- What an offer of line k makes of line n.
abbrev pub Line : List ℕ → Meaning → ℕ → List ℕ → ℕ → Type 0
Line m c k m' n =
    ((n ≡ k) × SoundLine c n × (mark_of m n ≡ 0) × Taken c n m')
    ⊎ ((n ≡ k → mark_of m n ≡ 0 → SoundLine c n → ⊥) × Kept n m m')

module _ (m : List ℕ) (c : Meaning) (k : ℕ) (m' : List ℕ) (size : length m ≡ 304644) (n : ℕ) (low : n ≤ 211) where
  line_same : n ≡ k → Allowed m c k → ((i : ℕ) → get_or m' i 0 ≡ taken_byte m (c.word k) k i) → Line m c k m' n
  line_same same a bytes =
      let P : ℕ → Type 0 = λ x. SoundLine c x × (mark_of m x ≡ 0) × Taken c x m' in
      let at : P k = (
        a.sound,
        a.free,
        record {
          mark = bytes (304432 + k) ∙ taken_mark m (c.word k) k;
          bytes = λ j h. bytes (1436 * k + j) ∙ taken_line m (c.word k) k j a.low h;
        },
      ) in
      let p = subst P (sym same) at in
      inl (same, p.0, p.1, p.2)

  line_other : (n ≡ k → ⊥) → k ≤ 211 → ((i : ℕ) → get_or m' i 0 ≡ taken_byte m (c.word k) k i) → Line m c k m' n
  line_other ne low' bytes =
      let apart : (j : ℕ) → j < 1436 → (1436 * n + j < 1436 * k) ⊎ (1436 * k + 1436 ≤ 1436 * n + j) = λ j h.
      elim (cases_lt n k) [ inl l ↦ inl (omega arith) | inr l ↦ inr (omega arith) ] in
      inr (
        (λ s _ _. absurd (ne s)),
        record {
          mark = bytes (304432 + n) ∙ taken_else m (c.word k) k (304432 + n) (λ q. ne (omega arith)) (inr (omega arith));
          bytes = λ j h. bytes (1436 * n + j)
              ∙ taken_else m (c.word k) k (1436 * n + j) (λ q. omega arith) (apart j h);
        },
      )

  line_refused : (Allowed m c k → ⊥) → m' ≡ m → Line m c k m' n
  line_refused ne same =
      let forbids : n ≡ k → mark_of m n ≡ 0 → SoundLine c n → ⊥ = λ s z g.
      let P : ℕ → Type 0 = λ x. (x ≤ 211) → mark_of m x ≡ 0 → SoundLine c x → ⊥ in
      subst P (sym s) (λ l' z' g'. ne (record { size = size; low = l'; free = z'; sound = g' })) low z g in
      inr (forbids, record { mark = ap (λ x. mark_of x n) same; bytes = λ j h. ap (λ x. line_byte x n j) same })

  pub line : (r : Result (Unit {0}) Denial) → r ≡ offer_at m c k → Offered m (c.word k) k m' r → Line m c k m' n
  line (Ok _) e o =
      let a = allowed m c k e in
      elim (cases_eq n k) [ inl s ↦ line_same s a o.1 | inr s ↦ line_other s a.low o.1 ]
  line (Err d) e o = line_refused (λ a. let ok = accepted m c k a in cc) o

-- An offer keeps the memory's length, and in unfit memory every byte.
pub offer_size : (m : List ℕ) (word : ℕ → ℕ) (k : ℕ) (m' : List ℕ) (r : Result (Unit {0}) Denial) → Offered m word k m' r → length m' ≡ length m
offer_size m word k m' (Ok _) o = o.0
offer_size m word k m' (Err d) o = ap length o

pub offer_unfit : (m : List ℕ) (c : Meaning) (k : ℕ) (m' : List ℕ) (r : Result (Unit {0}) Denial) → r ≡ offer_at m c k → Offered m (c.word k) k m' r →
    (length m ≡ 304644 → ⊥) → m' ≡ m
offer_unfit m c k m' (Ok _) e o ne = absurd (ne (allowed m c k e).size)
offer_unfit m c k m' (Err d) e o ne = o
