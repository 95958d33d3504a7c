-- Words of the code in the caller's own bytes: each byte is the number of a symbol.
use Rattle.std.specs.Prelude.{◌≡◌, ℕ, ◌+◌, ◌<◌, ◌≤◌, List, map, length, take, Ok, Err, Result, slice_index}
use Rattle.galois.specs.Field.{Arithmetic}
use Rattle.reed_solomon.specs.Code.{Coded, differing}
use Rattle.codec.specs.Mend.{places}
use Rattle.codec.specs.declared.record.MendRecord.{MendRecord}
use Rattle.denial.specs.Denials.{denied}
use Rattle.denial.specs.declared.Denial.{Denial}
use Rattle.denial.specs.declared.Reason.TheVariants.{Wide, Length, Lost}
use Rattle.denial.specs.declared.Layer.TheVariants.{Code}

-- The places at which two runs of bytes differ, rising.
abbrev pub differing_bytes : List ℕ → List ℕ → List ℕ
differing_bytes u v = differing (λ b. b) u v

-- A refused call leaves the bytes as they were, and answers the denial.
abbrev pub Refused : {T : Type 0} → List ℕ → List ℕ → Result T Denial → Denial → Type 0
Refused before after r d = (after ≡ before) × (r ≡ Err d)

module _ {F : Type 0} (K : Arithmetic F) where
  -- The bytes are the numbers of a coded word of n symbols.
  pub record CodedBytes (n : ℕ) (v : List ℕ) : Type 0 where
    pub word : List F
    pub numbers : map K.number word ≡ v
    pub coded : Coded K n word

  -- v is the coded word of n bytes that begins with the data d.
  pub record CodedFrom (n : ℕ) (d v : List ℕ) : Type 0 where
    pub begins : take (length d) v ≡ d
    pub coded : CodedBytes n v

  -- b has n bytes; v is coded, and differs from b in at most two.
  pub record WithinTwoBytes (n : ℕ) (b v : List ℕ) : Type 0 where
    pub size : length b ≡ n
    pub coded : CodedBytes n v
    pub close : length (differing_bytes v b) ≤ 2

  -- Every byte is the number of a symbol.
  abbrev pub AllNumbers : List ℕ → Type 0
  AllNumbers b = (i : ℕ) → i < length b → slice_index b i < K.size

  -- The byte at place i is the first that is not.
  pub record FirstWide (b : List ℕ) (i : ℕ) : Type 0 where
    pub inside : i < length b
    pub wide : K.size ≤ slice_index b i
    pub first : (k : ℕ) → k < i → slice_index b k < K.size

  -- Coding the data d left `after` where `before` stood, and answered r.
  pub record MadeBytes (d before after : List ℕ) (r : Result (Unit {0}) Denial) : Type 0 where
    pub too_wide : (i : ℕ) → FirstWide d i → Refused before after r (denied Wide Code 0 i)
    -- the coded word with four bytes more is left, and there is no other
    pub made : AllNumbers d →
        (r ≡ Ok tt) × CodedFrom (length d + 4) d after × ((v : List ℕ) → CodedFrom (length d + 4) d v → v ≡ after)

  -- Mending n bytes in place left `after` where `before` stood, and answered r. The refusals come in this order.
  pub record MendedBytes (n : ℕ) (before after : List ℕ) (r : Result MendRecord Denial) : Type 0 where
    pub wrong_length : ¬ (length before ≡ n) → Refused before after r (denied Length Code (length before) 0)
    pub too_wide : length before ≡ n → (i : ℕ) → FirstWide before i → Refused before after r (denied Wide Code 0 i)
    pub lost : length before ≡ n → AllNumbers before → ((v : List ℕ) → WithinTwoBytes n before v → ⊥) →
        Refused before after r (denied Lost Code 0 0)
    -- a coded word within two is never missed: it is what is left, and the record names the places at which it differs
    pub mends : AllNumbers before → (v : List ℕ) → WithinTwoBytes n before v →
        (after ≡ v) × ((m : MendRecord) × (r ≡ Ok m) × (places m ≡ differing_bytes v before))
    -- and what is left with a record is such a word
    pub sound : (m : MendRecord) → r ≡ Ok m → AllNumbers before × WithinTwoBytes n before after

-- What is left and answered is fixed by the bytes alone.
abbrev pub MendedBytesOneWay : Type 0 → Type 0
MendedBytesOneWay F =
    (K : Arithmetic F) (n : ℕ) (b u v : List ℕ) (r s : Result MendRecord Denial) → MendedBytes K n b u r → MendedBytes K n b v s → (u ≡ v) × (r ≡ s)
