-- Where a field begins on the cable, and what a window over it means.
use Rattle.std.specs.Prelude.{◌≡◌, ℕ, ◌+◌, ◌-◌, min, Bool, true, cond, ◌&&◌, List, [], ◌∷◌, Some, None, Option, nat_le, nat_lt, slice_index, slice_index_or}
use Rattle.carriers.specs.Meaning.{has, Meaning, only}

-- For each rate the line on which its first and its second field begin. Rate 0 is 24/1.001 frames a second, 1 is 24, 2 is 25 and 3 is
-- 30/1.001.
abbrev pub field_starts : List (List ℕ)
field_starts = (50 ∷ 313 ∷ []) ∷ (59 ∷ 372 ∷ []) ∷ (59 ∷ 372 ∷ []) ∷ (50 ∷ 313 ∷ []) ∷ []

-- There are such a rate and such a field.
abbrev pub is_field : ℕ → ℕ → Bool
is_field rate field = nat_le rate 3 && nat_le field 1

abbrev pub start_of : ℕ → ℕ → ℕ
start_of rate field = slice_index (slice_index_or field_starts rate []) field

-- The answer to the question where a field begins.
abbrev pub started : ℕ → ℕ → Option ℕ
started rate field = cond (is_field rate field) (Some (start_of rate field)) None

-- What a window means over a carrier that means m. Its line 0 is the line on which the field begins; it has 212 lines, or those of them
-- that m has, and none where there is no such field.
abbrev pub seen : ℕ → ℕ → Meaning → Meaning
seen rate field m =
    let start = start_of rate field in
    only (m.first - start) (cond (is_field rate field) (min (m.end - start) 212) 0) (λ l w. m.word (start + l) w)

-- The window shows this line of the carrier below.
abbrev pub shows : ℕ → ℕ → ℕ → Bool
shows rate field line = let start = start_of rate field in is_field rate field && (nat_le start line && nat_lt line (start + 212))

-- What a carrier means apart from the lines that the window shows.
abbrev pub beside : ℕ → ℕ → Meaning → Meaning
beside rate field m = record {
  first = m.first;
  end = m.end;
  word = λ l w. cond (shows rate field l) 0 (m.word l w);
}

-- A window has a word of its line exactly where the line is one of a field's 212 and the carrier below has that word of the line that is
-- as far behind the field's beginning; and there the same number stands.
pub record WindowFits : Type 0 where
  pub places : (rate field : ℕ) (m : Meaning) (l w : ℕ) →
      has (seen rate field m) l w ≡ ((is_field rate field && nat_le l 211) && has m (start_of rate field + l) w)
  pub words : (rate field : ℕ) (m : Meaning) (l w : ℕ) → has (seen rate field m) l w ≡ true →
      (seen rate field m).word l w ≡ m.word (start_of rate field + l) w
