-- A receiver's memory: 1436 bytes for each of the 212 lines of a field, then a mark byte for each. A line's mark is 0 until the line is
-- taken. The bytes of all lines in turn are the field's stream.
use Rattle.std.specs.Prelude.{ℕ, ◌+◌, Bool, cond, List, map, length, ◌==◌, slice_index}
use Rattle.std.specs.List.{range_with_len}
use Rattle.denial.specs.declared.Denial.{Denial}
use Rattle.layout.specs.Cleared as marked
use Rattle.layout.specs.Cleared.{cleared}
use Rattle.layout.specs.Places.{stream_place}

-- It has the bytes that a receiver needs.
abbrev pub fits : List ℕ → Bool
fits m = length m == 304644

-- The refusal of memory of another length.
abbrev pub unfit : List ℕ → Denial
unfit = marked.unfit

-- The memory after beginning: every mark is 0, and no other byte is touched.
abbrev pub begun : List ℕ → List ℕ
begun m = cond (fits m) (cleared m 304432) m

-- Line n was not taken yet: its mark is 0.
abbrev pub is_free : List ℕ → ℕ → Bool
is_free m n = slice_index m (304432 + n) == 0

-- The bytes of a packet's block from a channel, as they were gathered.
unfoldable pub gathered : List ℕ → ℕ → ℕ → List ℕ
gathered m packet channel = map (λ j. slice_index m (stream_place packet channel j)) (range_with_len 0 224)
