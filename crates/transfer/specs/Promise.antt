-- What is promised of each block of a field that was mapped, altered and offered in any order.
use Rattle.std.specs.Prelude.{◌≡◌, ℕ, zero, suc, ◌+◌, ◌<◌, ◌≤◌, Bool, cond, not, ◌&&◌, ◌⊎◌, ◌↔◌, List, [], ◌∷◌, length, take, Some, None, Ok, Err, Option, Result, ◌==◌, slice_index}
use Rattle.carriers.specs.Meaning.{Meaning}
use Rattle.codec.specs.Mend.{places}
use Rattle.codec.specs.declared.record.MendRecord.{MendRecord}
use Rattle.codewords.specs.Bytes.{differing_bytes, WithinTwoBytes}
use Rattle.denial.specs.Denials.{denied}
use Rattle.denial.specs.declared.Denial.{Denial}
use Rattle.denial.specs.declared.Reason.TheVariants.{Lost, Missing}
use Rattle.denial.specs.declared.Layer.TheVariants.{Code, Field}
use Rattle.galois.specs.Fields.{gf256}
use Rattle.layout.specs.Places.{byte_line, second, stream_place, word_of}
use Rattle.layout.specs.Words.{received_byte}
use Rattle.transfer.specs.Steps.{after_steps, FirstCopy, OfferedSound, SoundCopy}
use Rattle.transfer.specs.declared.steps.Step.{Step}

-- Some byte of the block stands on line n.
abbrev pub Crossed : ℕ → ℕ → ℕ → Type 0
Crossed p c n = (j : ℕ) × (j < 224) × (byte_line p c j ≡ n)

-- The lines that a block crosses, each once: its first, and its second where it has one.
abbrev pub with_second : ℕ → Option ℕ → List ℕ
with_second first None = first ∷ []
with_second first (Some line) = first ∷ line ∷ []

abbrev pub crossed_lines : ℕ → ℕ → List ℕ
crossed_lines p c = with_second (byte_line p c 0) (second p c)

-- How many numbers below n pass the test.
unfoldable pub count : (ℕ → Bool) → ℕ → ℕ
count test zero = 0
count test (suc n) = cond (test n) 1 0 + count test n

-- `mapped` is what the carrier means once the field is mapped.
module _ (mapped : Meaning) (steps : List Step) (p c : ℕ) where
  -- Byte j of the block in the copy of its line that an offer after the steps `before` makes.
  abbrev pub copied_byte : List Step → ℕ → ℕ
  copied_byte before j = received_byte ((after_steps mapped before).word (byte_line p c j) (word_of (stream_place p c j)))

  -- The byte is altered in that copy: it differs from the one mapped.
  abbrev pub is_altered : List Step → ℕ → Bool
  is_altered before j = not (copied_byte before j == (copied_byte [] j))

  -- How many bytes of the block are altered on line n in that copy.
  abbrev pub altered_on : ℕ → List Step → ℕ
  altered_on n before = count (λ j. (byte_line p c j == n) && is_altered before j) 224

  -- k is that number in the worst sound copy of line n, which has the most.
  pub record Worst (n k : ℕ) : Type 0 where
    pub reached : (before : List Step) × SoundCopy mapped steps before n × (altered_on n before ≡ k)
    pub most : (before : List Step) → SoundCopy mapped steps before n → altered_on n before ≤ k

  -- Each line of the list has its worst number, and these add up to t.
  pub data WorstSum : List ℕ → ℕ → Type 0 where
    none : WorstSum [] 0
    more : {n k : ℕ} {ns : List ℕ} {t : ℕ} → Worst n k → WorstSum ns t → WorstSum (n ∷ ns) (k + t)

  -- Some line that the block crosses was never offered sound.
  abbrev pub IsMissing : Type 0
  IsMissing = (n : ℕ) × Crossed p c n × (OfferedSound mapped steps n → ⊥)

  -- The bytes of the block as they are gathered: on each line, those of its first sound copy.
  pub record GatheredBlock (g : List ℕ) : Type 0 where
    pub size : length g ≡ 224
    pub bytes : (j : ℕ) → j < 224 → (before : List Step) → FirstCopy mapped steps before (byte_line p c j) → slice_index g j ≡ copied_byte before j

  -- The 219 bytes `loaded` were sent as the coded block `sent`. Asking for the block answered r, and left `after` in the answer place.
  pub record Promise (loaded sent after : List ℕ) (r : Result MendRecord Denial) : Type 0 where
    -- it is answered missing exactly when some line that it crosses was never offered sound
    pub told_missing : ((n : ℕ) × (r ≡ Err (denied Missing Field n 0))) ↔ IsMissing
    -- the line that is told is the first such line
    pub told_which : (n : ℕ) → r ≡ Err (denied Missing Field n 0) → Crossed p c n × (OfferedSound mapped steps n → ⊥)
    pub told_first : (n : ℕ) → r ≡ Err (denied Missing Field n 0) → (k : ℕ) → Crossed p c k → k < n → OfferedSound mapped steps k
    -- otherwise there are gathered bytes, of a first sound copy of each line, and each line has a worst one
    pub gathers : (IsMissing → ⊥) → (g : List ℕ) × GatheredBlock g
    pub has_first : (IsMissing → ⊥) → (n : ℕ) → Crossed p c n → (before : List Step) × FirstCopy mapped steps before n
    pub has_worst : (IsMissing → ⊥) → (t : ℕ) × WorstSum (crossed_lines p c) t
    -- it is lost exactly when no coded block differs from the gathered bytes in at most two, and otherwise given
    pub told_lost : (IsMissing → ⊥) → (g : List ℕ) → GatheredBlock g →
        (r ≡ Err (denied Lost Code p c)) ↔ ((v : List ℕ) → WithinTwoBytes gf256 224 g v → ⊥)
    pub told_else : (IsMissing → ⊥) → (r ≡ Err (denied Lost Code p c)) ⊎ ((k : MendRecord) × (r ≡ Ok k))
    -- the block given is the only coded one so near, and its mend record names exactly the places that differ
    pub told_given : (g : List ℕ) → GatheredBlock g → (k : MendRecord) → r ≡ Ok k →
        (v : List ℕ) × (after ≡ take 219 v) × WithinTwoBytes gf256 224 g v × ((u : List ℕ) → WithinTwoBytes gf256 224 g u → u ≡ v)
        × (places k ≡ differing_bytes v g)
    -- not missing, and with two bytes or fewer altered in the worst sound copies of its lines together, it comes out as sent, and the mend
    -- record names exactly the altered bytes
    pub as_sent : (IsMissing → ⊥) → (t : ℕ) → WorstSum (crossed_lines p c) t → t ≤ 2 → (g : List ℕ) → GatheredBlock g →
        (after ≡ loaded) × ((k : MendRecord) × (r ≡ Ok k) × (places k ≡ differing_bytes sent g))
