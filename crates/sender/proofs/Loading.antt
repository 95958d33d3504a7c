-- What loading a block leaves.
use Rattle.std.proofs.Common.{◌≡◌, ℕ, ◌+◌, ◌-◌, ◌*◌, ◌<◌, ◌≤◌, false, cond, eqb, List, ◌++◌, length, get_or, take, drop, replicate, sym, ap, ◌∙◌, inl, inr, arith, length-drop, length-set, length-take-le, get_or-drop, get_or-set_other, get_or-take, get_or-set_same}
use native.Mathlib.Decide.{ℕ_discrete}
use Rattle.std.proofs.lemmas.List.{ext_get_or, get_or_append_left, get_or-append_right, get_or-replicate, length-append}
use Rattle.std.proofs.lemmas.Bool.{cases_lt, cond-true, eq-eqb}
use Rattle.std.proofs.lemmas.Bool.Decides.{nat_tests}
use Rattle.layout.specs.Cleared.{cleared}
use Rattle.sender.proofs.Blocks.{block_length}
use Rattle.sender.specs.Memory.{begun, block_at, index_of, is_unloaded, LoadsStay, stored}

-- The memory with b in the place of 219 bytes from `at` on.
abbrev pasted : List ℕ → ℕ → List ℕ → List ℕ
pasted m at b = take at m ++ (b ++ drop (at + 219) m)

module _ (m : List ℕ) (at : ℕ) (b : List ℕ) (fits : at + 219 ≤ length m) (long : length b ≡ 219) where
  front : length (take at m) ≡ at
  front = length-take-le at m (omega arith)

  pasted_length : length (pasted m at b) ≡ length m
  pasted_length = simp (length-append, length-drop) (omega (arith, front, long))

  pasted_low : (k : ℕ) → k < at → get_or (pasted m at b) k 0 ≡ get_or m k 0
  pasted_low k h = get_or_append_left (take at m) (b ++ drop (at + 219) m) 0 k (omega (arith, front)) ∙ get_or-take at m k 0 h

  pasted_here : (j : ℕ) → j < 219 → get_or (pasted m at b) (at + j) 0 ≡ get_or b j 0
  pasted_here j h =
      let back : at + j - at ≡ j = omega arith in
      get_or-append_right (take at m) (b ++ drop (at + 219) m) at (at + j) 0 front (omega arith)
      ∙ ap (λ k. get_or (b ++ drop (at + 219) m) k 0) back
      ∙ get_or_append_left b (drop (at + 219) m) 0 j (omega (arith, long))

  pasted_high : (k : ℕ) → at + 219 ≤ k → get_or (pasted m at b) k 0 ≡ get_or m k 0
  pasted_high k h =
      let there : at + 219 + (k - at - 219) ≡ k = omega arith in
      get_or-append_right (take at m) (b ++ drop (at + 219) m) at k 0 front (omega arith)
      ∙ get_or-append_right b (drop (at + 219) m) 219 (k - at) 0 long (omega arith)
      ∙ get_or-drop (at + 219) m (k - at - 219) 0
      ∙ ap (λ x. get_or m x 0) there

module _ (m : List ℕ) (p c : ℕ) (b : List ℕ) (fit : length m ≡ 298320) (hp : p ≤ 677) (hc : c ≤ 1) (long : length b ≡ 219) where
  inside : 219 * index_of p c + 219 ≤ length m
  inside = omega arith

  stored_length : length (stored m p c b) ≡ 298320
  stored_length = length-set (pasted m (219 * index_of p c) b) _ 1 ∙ pasted_length m (219 * index_of p c) b inside long ∙ fit

  stored_byte : (k : ℕ) → k < 296964 → get_or (stored m p c b) k 0 ≡ get_or (pasted m (219 * index_of p c) b) k 0
  stored_byte k h = get_or-set_other (pasted m (219 * index_of p c) b) (296964 + index_of p c) k 1 0 (λ e. omega arith)

  own : block_at (stored m p c b) p c ≡ b
  own = ext_get_or 0 (block_at (stored m p c b) p c) b (block_length (stored m p c b) p c stored_length hp hc ∙ sym long)
      (λ j h.
      let l : j < 219 = omega (arith, block_length (stored m p c b) p c stored_length hp hc) in
      get_or-take 219 (drop (219 * index_of p c) (stored m p c b)) j 0 l ∙ get_or-drop (219 * index_of p c) (stored m p c b) j 0
      ∙ stored_byte (219 * index_of p c + j) (omega arith) ∙ pasted_here m (219 * index_of p c) b inside long j l)

  others : (p' c' : ℕ) → p' ≤ 677 → c' ≤ 1 → (index_of p' c' ≡ index_of p c → ⊥) → block_at (stored m p c b) p' c' ≡ block_at m p' c'
  others p' c' hp' hc' ne =
      ext_get_or 0 (block_at (stored m p c b) p' c') (block_at m p' c') (block_length (stored m p c b) p' c' stored_length hp' hc' ∙ sym (block_length m p' c' fit hp' hc'))
      (λ j h.
      let l : j < 219 = omega (arith, block_length (stored m p c b) p' c' stored_length hp' hc') in
      get_or-take 219 (drop (219 * index_of p' c') (stored m p c b)) j 0 l ∙ get_or-drop (219 * index_of p' c') (stored m p c b) j 0
      ∙ stored_byte (219 * index_of p' c' + j) (omega arith) ∙ apart j l
      ∙ sym (get_or-take 219 (drop (219 * index_of p' c') m) j 0 l ∙ get_or-drop (219 * index_of p' c') m j 0))
    where
      apart : (j : ℕ) → j < 219 → get_or (pasted m (219 * index_of p c) b) (219 * index_of p' c' + j) 0 ≡ get_or m (219 * index_of p' c' + j) 0
      apart j l = elim (cases_lt (index_of p' c') (index_of p c)) [
        | inl low ↦ pasted_low m (219 * index_of p c) b inside long (219 * index_of p' c' + j) (omega arith)
        | inr high ↦ pasted_high m (219 * index_of p c) b inside long (219 * index_of p' c' + j) (high_place (index_of p' c') (index_of p c) j high ne)
      ]
        where
          high_place : (x y j : ℕ) → y ≤ x → (x ≡ y → ⊥) → 219 * y + 219 ≤ 219 * x + j
          high_place x y j h n = omega arith

  marks : (i : ℕ) → i < 1356 → is_unloaded (stored m p c b) i ≡ cond (eqb i (index_of p c)) false (is_unloaded m i)
  marks i h = elim (ℕ_discrete i (index_of p c)) [
    | yes e ↦
        let one : get_or (stored m p c b) (296964 + i) 0 ≡ 1 =
        ap (λ k. get_or (stored m p c b) (296964 + k) 0) e
        ∙ get_or-set_same (pasted m (219 * index_of p c) b) (296964 + index_of p c) 1 0 (omega (arith, pasted_length m (219 * index_of p c) b inside long)) in
        rw one (grind (arith, nat_tests))
    | no ne ↦
        let same : get_or (stored m p c b) (296964 + i) 0 ≡ get_or m (296964 + i) 0 =
        get_or-set_other (pasted m (219 * index_of p c) b) (296964 + index_of p c) (296964 + i) 1 0 (λ e. ne (omega arith))
        ∙ pasted_high m (219 * index_of p c) b inside long (296964 + i) (omega arith) in
        rw same (grind (arith, nat_tests))
  ]

cleared_mark : (m : List ℕ) (k i : ℕ) → k ≤ i → i < length m → get_or (cleared m k) i 0 ≡ 0
unfolding cleared
cleared_mark m k i h l =
    get_or-append_right (take k m) (replicate (length m - k) 0) k i 0 (length-take-le k m (omega arith)) h ∙ get_or-replicate (length m - k) (i - k) 0 0 (omega arith)

pub loads_stay : LoadsStay
loads_stay = record {
  own = own;
  others = λ m p c p' c' b fit hp hc long. others m p c b fit hp hc long p' c';
  marks = marks;
  size = stored_length;
  none = λ m fit i h.
      let begins : begun m ≡ cleared m 296964 = cond-true _ _ _ (eq-eqb _ _ fit) in
      eq-eqb _ _ (ap (λ x. get_or x (296964 + i) 0) begins ∙ cleared_mark m 296964 (296964 + i) (omega arith) (omega arith));
}
