-- Remainders by the polynomial whose roots are the first four powers of alpha.
use Rattle.std.specs.Prelude.{◌≡◌, ℕ, ◌<◌}
use Rattle.galois.specs.Field.{Arithmetic, power}
use Rattle.galois.specs.declared.cubic.Cubic.{Cubic}

module _ {F : Type 0} (K : Arithmetic F) where
  open K use {plus as ◌+◌, times as ◌*◌, alpha as α}

  infixl 60 ◌+◌
  infixl 70 ◌*◌
  -- the value of k3 X³ + k2 X² + k1 X + k0 at x
  abbrev pub cubic_at : Cubic F → F → F
  cubic_at r x = r.k0 + x * (r.k1 + x * (r.k2 + x * r.k3))

  -- r has the values of a X⁴ at the four roots: since its degree is below four, it is what division leaves of a X⁴
  abbrev pub Leaves : F → Cubic F → Type 0
  Leaves a r = (k : ℕ) → k < 4 → cubic_at r (power K α k) ≡ a * power K (power K α k) 4
