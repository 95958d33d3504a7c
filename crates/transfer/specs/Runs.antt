-- What a run of steps leaves in a receiver's memory, line by line.
use Rattle.std.specs.Prelude.{◌≡◌, ℕ, ◌+◌, ◌*◌, ◌<◌, ◌≤◌, ◌⊎◌, ◌↔◌, List, length, ◌≢◌, slice_index}
use Rattle.carriers.specs.Meaning.{Meaning}
use Rattle.layout.specs.Words.{received_byte}
use Rattle.transfer.specs.Steps.{after_steps, FirstCopy, OfferedSound, SoundCopy}
use Rattle.transfer.specs.declared.steps.Step.{Step}

-- The mark of line n, and byte j of it.
abbrev pub mark_of : List ℕ → ℕ → ℕ
mark_of m n = slice_index m (304432 + n)

abbrev pub line_byte : List ℕ → ℕ → ℕ → ℕ
line_byte m n j = slice_index m (1436 * n + j)

-- The mark is set, and the bytes are those of the carrier's line.
pub record Taken (c : Meaning) (n : ℕ) (m : List ℕ) : Type 0 where
  pub mark : mark_of m n ≡ 1
  pub bytes : (j : ℕ) → j < 1436 → line_byte m n j ≡ received_byte (c.word n (2 + j))

-- The mark and the bytes of line n are as they were.
pub record Kept (n : ℕ) (m m' : List ℕ) : Type 0 where
  pub mark : mark_of m' n ≡ mark_of m n
  pub bytes : (j : ℕ) → j < 1436 → line_byte m' n j ≡ line_byte m n j

-- How a line ends that was free: taken from its first sound copy, or as it was where there is none.
abbrev pub Ends : Meaning → List Step → List ℕ → List ℕ → ℕ → Type 0
Ends c steps m m' n =
    ((b : List Step) × FirstCopy c steps b n × Taken (after_steps c b) n m')
    ⊎ (((b : List Step) → SoundCopy c steps b n → ⊥) × Kept n m m')

-- What a run of the steps makes of the memory m.
pub record Ran (c : Meaning) (steps : List Step) (m m' : List ℕ) : Type 0 where
  pub size : length m' ≡ length m
  pub unfit : (length m ≢ 304644) → m' ≡ m
  pub held : length m ≡ 304644 → (n : ℕ) → n ≤ 211 → (mark_of m n ≢ 0) → Kept n m m'
  pub free : length m ≡ 304644 → (n : ℕ) → n ≤ 211 → mark_of m n ≡ 0 → Ends c steps m m' n

-- What a whole run, from beginning to closing, leaves of line n: its mark is 1 exactly where some offer of it was sound, and then its bytes
-- are those of the first such copy; else its mark is 0, and its bytes are those of the memory that was lent.
pub record GatheredLine (c : Meaning) (steps : List Step) (m m' : List ℕ) (n : ℕ) : Type 0 where
  pub marked : (mark_of m' n ≡ 1) ↔ OfferedSound c steps n
  pub binary : (mark_of m' n ≡ 0) ⊎ (mark_of m' n ≡ 1)
  pub first_copy : (b : List Step) → FirstCopy c steps b n → (j : ℕ) → j < 1436 → line_byte m' n j ≡ received_byte ((after_steps c b).word n (2 + j))
  pub has_first : OfferedSound c steps n → (b : List Step) × FirstCopy c steps b n
  pub untouched : mark_of m' n ≡ 0 → (j : ℕ) → j < 1436 → line_byte m' n j ≡ line_byte m n j

pub record Gathered (c : Meaning) (steps : List Step) (m m' : List ℕ) : Type 0 where
  pub size : length m' ≡ length m
  pub unfit : (length m ≢ 304644) → m' ≡ m
  pub lines : length m ≡ 304644 → (n : ℕ) → n ≤ 211 → GatheredLine c steps m m' n
