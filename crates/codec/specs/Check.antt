-- The four check symbols of a run of data symbols.
use Rattle.std.specs.Prelude.{◌≡◌, ℕ, ◌+◌, ◌≤◌, List, [], ◌∷◌, ◌++◌, length, Some, None, Option}
use Rattle.galois.specs.Field.{Arithmetic}
use Rattle.galois.specs.declared.cubic.Cubic.{Cubic}
use Rattle.reed_solomon.specs.Code.{Coded}

-- the four coefficients, that of the highest power first
abbrev pub symbols : {F : Type 0} → Cubic F → List F
symbols c = c.k3 ∷ c.k2 ∷ c.k1 ∷ c.k0 ∷ []

module _ {F : Type 0} (K : Arithmetic F) where
  -- The data with these four symbols after it is coded, and with no others.
  pub record Checks (w : List F) (c : Cubic F) : Type 0 where
    pub coded : Coded K (length w + 4) (w ++ symbols c)
    pub only : (s : List F) → Coded K (length w + 4) (w ++ s) → s ≡ symbols c

  -- There is at least one data symbol, and the whole word is no longer than alpha has different powers.
  pub record DataLength (n : ℕ) : Type 0 where
    pub some : 1 ≤ n
    pub fits : n + 4 ≤ K.order

  -- The check symbols of w, or none where the code has no words of that length.
  abbrev pub Checked : List F → Option (Cubic F) → Type 0
  Checked w None = DataLength (length w) → ⊥
  Checked w (Some c) = DataLength (length w) × Checks w c
