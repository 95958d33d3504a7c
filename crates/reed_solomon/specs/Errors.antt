-- What the syndromes of a word say of its errors: the steps from syndromes to places and values.
use Rattle.std.specs.Prelude.{List, ℕ, suc, ◌-◌, get_or, set}
use Rattle.galois.specs.Field.{Arithmetic, power}
use Rattle.reed_solomon.specs.Code.{syndrome}

module _ {F : Type 0} (K : Arithmetic F) where
  open K use {zero as 𝟘, plus as ◌+◌, times as ◌*◌, alpha as α}

  infixl 60 ◌+◌
  infixl 70 ◌*◌
  -- e added to the symbol at place i
  unfoldable pub altered : List F → ℕ → F → List F
  altered w i e = set w i (get_or w i 𝟘 + e)

  -- The power of α that stands for place i of a word of n symbols: the power of X that its symbol is the coefficient of.
  unfoldable pub locator : ℕ → ℕ → F
  locator n i = power K α (n - suc i)

  -- S₀S₂ + S₁²: zero where there are fewer than two errors
  unfoldable pub determinant : List F → F
  determinant w = syndrome K w 0 * syndrome K w 2 + syndrome K w 1 * syndrome K w 1

  -- (S₀S₂ + S₁²)x² + (S₀S₃ + S₁S₂)x + (S₁S₃ + S₂²): zero at the locators of two errors
  unfoldable pub quadratic : List F → F → F
  quadratic w x =
      determinant w * (x * x)
      + (syndrome K w 0 * syndrome K w 3 + syndrome K w 1 * syndrome K w 2) * x
      + (syndrome K w 1 * syndrome K w 3 + syndrome K w 2 * syndrome K w 2)
