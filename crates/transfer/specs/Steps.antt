-- What a list of steps makes of a carrier: copies of its lines, and which of them are sound.
use Rattle.std.specs.Prelude.{◌≡◌, ℕ, true, List, [], ◌∷◌, ◌++◌, Result}
use Rattle.carriers.specs.Meaning.{has, Meaning, write_at, written}
use Rattle.denial.specs.declared.Denial.{Denial}
use Rattle.receiver.specs.Offers.{offer_at, Offered, Sound}
use Rattle.transfer.specs.declared.steps.Step.{Step}
use Rattle.transfer.specs.declared.steps.Step.TheVariants.{Offer, Write}

-- The carrier after each write of the list is made in turn. A refused write changes nothing, and an offer changes no carrier.
abbrev pub after_steps : Meaning → List Step → Meaning
after_steps c [] = c
after_steps c (Write line word value ∷ steps) = after_steps (written c line word value) steps
after_steps c (Offer line ∷ steps) = after_steps c steps

-- What one step answers.
abbrev pub step_at : List ℕ → Meaning → Step → Result (Unit {0}) Denial
step_at m c (Write line word value) = write_at c line word value
step_at m c (Offer line) = offer_at m c line

-- What one step, that was answered r, makes of a receiver's memory.
abbrev pub Stepped : List ℕ → Meaning → Step → List ℕ → Result (Unit {0}) Denial → Type 0
Stepped m c (Write line word value) m' r = m' ≡ m
Stepped m c (Offer line) m' r = Offered m (c.word line) line m' r

-- The carrier has line n, and its words are sound.
pub record SoundLine (c : Meaning) (n : ℕ) : Type 0 where
  pub here : has c n 0 ≡ true
  pub sound : Sound (c.word n) n

-- After the steps `before` the list offers line n, and the copy that this offer makes is sound: the words of the line with each accepted
-- write before the offer made in turn.
pub record SoundCopy (c : Meaning) (steps before : List Step) (n : ℕ) : Type 0 where
  pub rest : List Step
  pub there : steps ≡ before ++ Offer n ∷ rest
  pub sound : SoundLine (after_steps c before) n

-- It is the first sound copy of the line.
pub record FirstCopy (c : Meaning) (steps before : List Step) (n : ℕ) : Type 0 where
  pub copy : SoundCopy c steps before n
  pub none_before : (b : List Step) → SoundCopy c before b n → ⊥

-- Some offer of line n makes a sound copy.
abbrev pub OfferedSound : Meaning → List Step → ℕ → Type 0
OfferedSound c steps n = (before : List Step) × SoundCopy c steps before n
