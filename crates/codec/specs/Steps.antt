-- What the steps between a word and its mending tell each other.
use Rattle.std.specs.Prelude.{◌≡◌, ℕ, ◌<◌, ◌≤◌, List, length, Some, None, Option, ◌≢◌}
use Rattle.galois.specs.Field.{Arithmetic, power}
use Rattle.galois.specs.Roots.{cubic_at}
use Rattle.galois.specs.declared.cubic.Cubic.{Cubic}
use Rattle.reed_solomon.specs.Code.{syndrome}
use Rattle.codec.specs.Mend.{WithinTwo, places}
use Rattle.reed_solomon.specs.Code.{differing}
use Rattle.codec.specs.declared.record.MendRecord.{MendRecord}
use Rattle.codec.specs.declared.syndromes.Syndromes.{Syndromes}
use Rattle.codec.specs.declared.roots.Trinomial.{Trinomial}

module _ {F : Type 0} (K : Arithmetic F) where
  open K use {zero as 𝟘, plus as ◌+◌, times as ◌*◌, alpha as α}

  infixl 60 ◌+◌
  infixl 70 ◌*◌
  -- the values of the word at the four roots of the generator
  abbrev pub syndromes : List F → Syndromes F
  syndromes w = record { s0 = syndrome K w 0; s1 = syndrome K w 1; s2 = syndrome K w 2; s3 = syndrome K w 3 }

  -- s is what is told of w, a word of a length that the code has
  pub record Told (w : List F) (s : Syndromes F) : Type 0 where
    pub long : 5 ≤ length w
    pub short : length w ≤ K.order
    pub values : s ≡ syndromes w

  -- r has the word's values at the four roots: it is what division by the generator leaves of the word
  abbrev pub Remains : List F → Cubic F → Type 0
  Remains w r = (k : ℕ) → k < 4 → cubic_at K r (power K α k) ≡ syndrome K w k

  -- all four are zero
  pub record AllZero (s : Syndromes F) : Type 0 where
    pub zeroth : s.s0 ≡ 𝟘
    pub first : s.s1 ≡ 𝟘
    pub second : s.s2 ≡ 𝟘
    pub third : s.s3 ≡ 𝟘

  -- the value of a trinomial at x
  abbrev pub trinomial_at : Trinomial F → F → F
  trinomial_at t x = t.square * (x * x) + t.linear * x + t.constant

  -- u has the three terms of that value
  pub record Terms (t : Trinomial F) (x : F) (u : Trinomial F) : Type 0 where
    pub square_term : u.square ≡ t.square * (x * x)
    pub linear_term : u.linear ≡ t.linear * x
    pub constant_term : u.constant ≡ t.constant

  -- no power of alpha from m to below n is a root
  abbrev pub NoRoot : Trinomial F → ℕ → ℕ → Type 0
  NoRoot t m n = (k : ℕ) → m ≤ k → k < n → trinomial_at t (power K α k) ≢ 𝟘

  -- x is the e-th power of alpha
  abbrev pub IsPower : ℕ → F → Type 0
  IsPower e x = x ≡ power K α e

  -- x, the e-th power, is the first root among the powers from m to below n
  pub record FirstRoot (t : Trinomial F) (m n e : ℕ) (x : F) : Type 0 where
    pub from : m ≤ e
    pub below : e < n
    pub is : IsPower e x
    pub root : trinomial_at t x ≡ 𝟘
    pub first : NoRoot t m e

  -- what one attempt to mend w did, that left w'
  abbrev pub Attempt : List F → List F → Option MendRecord → Type 0
  Attempt w w' None = (w' ≡ w) × ((v : List F) → WithinTwo K w v → ⊥)
  Attempt w w' (Some m) = WithinTwo K w w' × (places m ≡ differing K.number w' w)
