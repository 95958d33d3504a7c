-- A sender's memory: 1356 basic blocks of 219 bytes in the order of the stream, then a mark byte for each. A block's mark is 0 until the
-- block is loaded.
use Rattle.std.specs.Prelude.{◌≡◌, ℕ, ◌+◌, ◌*◌, ◌<◌, ◌≤◌, Bool, true, false, cond, List, ◌++◌, length, take, drop, Ok, Err, Result, ◌==◌, ◌≢◌, slice_index, slice_set}
use Rattle.denial.specs.Denials.{denied}
use Rattle.denial.specs.declared.Denial.{Denial}
use Rattle.denial.specs.declared.Reason.TheVariants.{Length, Loaded}
use Rattle.denial.specs.declared.Layer.TheVariants.{Field}
use Rattle.layout.specs.Cleared as marked
use Rattle.layout.specs.Cleared.{cleared}
use Rattle.layout.specs.Places.{is_block, no_such, ordinal_of}

-- It has the bytes that a sender needs.
abbrev pub fits : List ℕ → Bool
fits m = length m == 298320

-- The refusal of memory of another length.
abbrev pub unfit : List ℕ → Denial
unfit = marked.unfit

-- Which block in the order of the stream: a packet's block from channel 1 comes before the one from channel 0.
abbrev pub index_of : ℕ → ℕ → ℕ
index_of = ordinal_of

-- Block i is not loaded yet: its mark is 0.
abbrev pub is_unloaded : List ℕ → ℕ → Bool
is_unloaded m i = slice_index m (296964 + i) == 0

-- The 219 bytes that stand for a packet's block from a channel.
abbrev pub block_at : List ℕ → ℕ → ℕ → List ℕ
block_at m packet channel = take 219 (drop (219 * index_of packet channel) m)

-- The memory after beginning: every mark is 0, and no other byte is touched.
abbrev pub begun : List ℕ → List ℕ
begun m = cond (fits m) (cleared m 296964) m

-- What loading a block answers.
abbrev pub load_at : List ℕ → ℕ → ℕ → List ℕ → Result (Unit {0}) Denial
load_at m packet channel block =
    cond (fits m)
    (cond (is_block packet channel)
    (cond (length block == 219)
    (cond (is_unloaded m (index_of packet channel)) (Ok tt) (Err (denied Loaded Field packet channel)))
    (Err (denied Length Field (length block) 0)))
    (Err (no_such packet channel)))
    (Err (unfit m))

-- The memory with the bytes of a block in their place and its mark set.
abbrev pub stored : List ℕ → ℕ → ℕ → List ℕ → List ℕ
stored m packet channel block =
    let at = 219 * index_of packet channel in
    slice_set (take at m ++ (block ++ drop (at + 219) m)) (296964 + index_of packet channel) 1

-- The memory after loading: a block that is accepted is stored, and a refusal changes no byte.
abbrev pub after_load : List ℕ → ℕ → ℕ → List ℕ → Result (Unit {0}) Denial → List ℕ
after_load m packet channel block (Ok _) = stored m packet channel block
after_load m packet channel block (Err _) = m

-- A block that is loaded is the one that stands there, until the memory is begun anew: loading another touches neither its bytes nor its mark.
pub record LoadsStay : Type 0 where
  pub own : (m : List ℕ) (p c : ℕ) (b : List ℕ) → length m ≡ 298320 → p ≤ 677 → c ≤ 1 → length b ≡ 219 → block_at (stored m p c b) p c ≡ b
  pub others : (m : List ℕ) (p c p' c' : ℕ) (b : List ℕ) → length m ≡ 298320 → p ≤ 677 → c ≤ 1 → length b ≡ 219 → p' ≤ 677 → c' ≤ 1 →
      (index_of p' c' ≢ index_of p c) → block_at (stored m p c b) p' c' ≡ block_at m p' c'
  pub marks : (m : List ℕ) (p c : ℕ) (b : List ℕ) → length m ≡ 298320 → p ≤ 677 → c ≤ 1 → length b ≡ 219 → (i : ℕ) → i < 1356 →
      is_unloaded (stored m p c b) i ≡ cond (i == index_of p c) false (is_unloaded m i)
  pub size : (m : List ℕ) (p c : ℕ) (b : List ℕ) → length m ≡ 298320 → p ≤ 677 → c ≤ 1 → length b ≡ 219 → length (stored m p c b) ≡ 298320
  -- after beginning no block is loaded
  pub none : (m : List ℕ) → length m ≡ 298320 → (i : ℕ) → i < 1356 → is_unloaded (begun m) i ≡ true
