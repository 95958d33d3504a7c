-- What mending a word means.
use Rattle.std.specs.Prelude.{◌≡◌, ℕ, ◌≤◌, List, [], ◌∷◌, length, take, Some, None, Option}
use Rattle.galois.specs.Field.{Arithmetic}
use Rattle.reed_solomon.specs.Code.{Coded, differing, distance}
use Rattle.codec.specs.declared.record.MendRecord.{MendRecord}

-- The places that a mend record names, rising: as many of its two as it counts.
abbrev pub places : MendRecord → List ℕ
places m = take m.count (m.first ∷ m.second ∷ [])

module _ {F : Type 0} (K : Arithmetic F) where
  -- v is a coded word of the length of w, and differs from w in at most two symbols. The code has words of 5 symbols up to as
  -- many as alpha has different powers.
  pub record WithinTwo (w v : List F) : Type 0 where
    pub long : 5 ≤ length w
    pub short : length w ≤ K.order
    pub coded : Coded K (length w) v
    pub close : distance K.number v w ≤ 2

  -- r is the record of the places at which v and w differ
  abbrev pub Records : List F → List F → Option MendRecord → Type 0
  Records w v r = (m : MendRecord) × (r ≡ Some m) × (places m ≡ differing K.number v w)

  -- Mending w left w' and answered r.
  pub record Mended (w w' : List F) (r : Option MendRecord) : Type 0 where
    -- a coded word within two is never missed: it is what is left, and the record names the places at which it differs from w
    pub mends : (v : List F) → WithinTwo w v → (w' ≡ v) × Records w v r
    -- what is left with a record is such a word
    pub sound : (m : MendRecord) → r ≡ Some m → WithinTwo w w'
    -- where there is none, nothing is altered
    pub refuses : ((v : List F) → WithinTwo w v → ⊥) → (r ≡ None) × (w' ≡ w)

-- What is left and answered is fixed by the word alone.
abbrev pub MendedOneWay : Type 0 → Type 0
MendedOneWay F =
    (K : Arithmetic F) (w u v : List F) (r s : Option MendRecord) → Mended K w u r → Mended K w v s → (u ≡ v) × (r ≡ s)
