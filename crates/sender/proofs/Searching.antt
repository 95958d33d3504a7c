-- What a search found is the first number that passes.
use Rattle.std.proofs.Common.{◌≡◌, ℕ, ◌+◌, ◌<◌, ◌≤◌, Bool, true, false, eqb, List, MatchOption, Some, None, Option, length, get_or, take, drop, sym, ap, ◌∙◌, subst, arith, get_or-drop, get_or-take, length-drop, length-take}
use Rattle.std.specs.List.{AllWithin, HoldsAt}
use Rattle.layout.proofs.Firsts.{first_at, first_found, none_below}
use Rattle.layout.specs.First.{first_below}
use Rattle.layout.specs.Places.{ordinal_of}
use Rattle.layout.specs.declared.block.BlockName.{BlockName}
use Rattle.sender.specs.Mapping.{unloaded}
use Rattle.sender.specs.Memory.{is_unloaded}

pub line_found : (test : ℕ → Bool) (n : ℕ) (r : Option ℕ) →
    MatchOption r ((k : ℕ) → 0 ≤ k → k < n → test k ≡ false)
    (λ i. (0 ≤ i) × (i < n) × (test i ≡ true) × ((k : ℕ) → 0 ≤ k → k < i → test k ≡ false)) →
    r ≡ first_below test n
line_found test n None none = sym (none_below test n (λ k h. none k (omega arith) h))
line_found test n (Some i) (low, below, passes, before) =
    sym (first_at test n i (record { below = below; passes = passes; none_before = λ k h. before k (omega arith) h }))

-- The marks of a sender's memory.
abbrev pub marks_of : List ℕ → List ℕ
marks_of m = take 1356 (drop 296964 m)

mark_at : (m : List ℕ) (i : ℕ) → i < 1356 → get_or (marks_of m) i 0 ≡ get_or m (296964 + i) 0
mark_at m i h = get_or-take 1356 (drop 296964 m) i 0 h ∙ get_or-drop 296964 m i 0

marks_length : (m : List ℕ) → length m ≡ 298320 → length (marks_of m) ≡ 1356
marks_length m size = simp (length-take, length-drop) (omega arith)

pub mark_found : (m : List ℕ) (r : Option ℕ) → length m ≡ 298320 →
    MatchOption r (AllWithin (λ x. eqb x 0 ≡ false) (marks_of m) 0 (length (marks_of m)))
    (λ i. (i < length (marks_of m)) × HoldsAt (λ x. eqb x 0 ≡ true) (marks_of m) i × AllWithin (λ x. eqb x 0 ≡ false) (marks_of m) 0 i) →
    r ≡ unloaded m
mark_found m None size none =
    sym (none_below (is_unloaded m) 1356
    (λ k h. subst (λ v. eqb v 0 ≡ false) (mark_at m k h) (none k 0 (omega arith) (omega (arith, marks_length m size)))))
mark_found m (Some i) size (below, passes, before) =
    let inside : i < 1356 = omega (arith, marks_length m size) in
    sym (first_at (is_unloaded m) 1356 i (record {
      below = inside;
      passes = subst (λ v. eqb v 0 ≡ true) (mark_at m i inside) (passes 0);
      none_before = λ k h. subst (λ v. eqb v 0 ≡ false) (mark_at m k (omega arith)) (before k 0 (omega arith) h);
    }))

-- A block that is not loaded has a name.
pub named : (m : List ℕ) (i : ℕ) (r : Option BlockName) → unloaded m ≡ Some i →
    MatchOption r (1356 ≤ i) (λ name. ordinal_of name.packet name.channel ≡ i) →
    MatchOption r (unloaded m ≡ None) (λ name. unloaded m ≡ Some (ordinal_of name.packet name.channel))
named m i None first past = absurd (omega (arith, ((first_found.some (is_unloaded m) 1356 i).0 first).below))
named m i (Some name) first there = first ∙ ap Some (sym there)
