-- The names of blocks in the order of the stream: none of a range is passed over.
use Rattle.std.proofs.Common.{◌≡◌, ℕ, ◌+◌, ◌<◌, ◌≤◌, [], ◌∷◌, Some, None, Option, MatchOption, is_some, sym, ap, true≢false, arith}
use denote.Param.Members.{Mut}
use Rattle.std.specs.Fn.{Called}
use Rattle.std.specs.Iterator.Adapters.{filter_map_source, filter_map_steps}
use Rattle.std.proofs.iter.Yields.{nat_range_steps}
use Rattle.std.specs.declared.iter.FilterMap.{FilterMap}
use Rattle.std.specs.declared.ops.Range.{Range}
use Rattle.layout.specs.Places.{ordinal_of}
use Rattle.layout.specs.declared.block.BlockName.{BlockName}

-- What a call that names the block of a number answers.
abbrev pub Names : ℕ → Option BlockName → Type 0
Names i r = MatchOption r (1356 ≤ i) (λ name. ordinal_of name.packet name.channel ≡ i)

module _ {F : Type 0} (g : Mut F (ℕ × Unit {0}) (Option BlockName))
    (names : (p q : F) (i : ℕ) (r : Option BlockName) → Called g p (i, tt) r q → Names i r) where
  -- The next name is that of the start.
  pub named_on : (s t : FilterMap (Range ℕ) F) (name : BlockName) → (filter_map_source s).end ≡ 1356 →
      filter_map_steps nat_range_steps g s (Some name) t →
      ((filter_map_source s).start < 1356) × (ordinal_of name.packet name.channel ≡ (filter_map_source s).start)
      × ((filter_map_source t).start ≡ (filter_map_source s).start + 1) × ((filter_map_source t).end ≡ 1356)
  named_on s t name end ([], None, f, before, folded, (none, left)) = absurd (true≢false (ap is_some none))
  named_on s t name end ([], Some i, f, (u, same, (last, (below, is, next))), folded, (called, some)) =
      let start = ap (λ (r : Range ℕ). r.start) same in
      let ends = ap (λ (r : Range ℕ). r.end) same in
      let ordinal = names _ _ i (Some name) called in
      (omega (arith, start, ends, end, below), omega (arith, ordinal, is, start), omega (arith, next, start), omega (arith, last, ends, end))
  named_on s t name end (i ∷ is, o, f, (u, (j, (last, (below, first, next)), more), step), (p, called, folded), rest) =
      absurd (omega (arith, names _ _ i None called, below, first, end))

  -- There is one until the range has ended.
  pub named_all : (s t : FilterMap (Range ℕ) F) → (filter_map_source s).end ≡ 1356 →
      filter_map_steps nat_range_steps g s None t → 1356 ≤ (filter_map_source s).start
  named_all s t end ([], None, f, (u, same, (last, (gap, stays))), folded, rest) =
      omega (arith, ap (λ (r : Range ℕ). r.start) same, ap (λ (r : Range ℕ). r.end) same, gap, end)
  named_all s t end ([], Some i, f, before, folded, (called, some)) = absurd (true≢false (sym some))
  named_all s t end (i ∷ is, o, f, (u, (j, (last, (below, first, next)), more), step), (p, called, folded), rest) =
      absurd (omega (arith, names _ _ i None called, below, first, end))
