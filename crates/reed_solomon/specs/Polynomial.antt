-- Polynomials over a field: the list of the coefficients, the constant one first.
use Rattle.std.specs.Prelude.{List, [], ◌∷◌}
use Rattle.galois.specs.Field.{Arithmetic}

module _ {F : Type 0} (K : Arithmetic F) where
  open K use {zero as 𝟘, one as 𝟙, plus as ◌+◌, times as ◌*◌}

  infixl 60 ◌+◌
  infixl 70 ◌*◌
  unfoldable pub sum : List F → List F → List F
  sum [] q = q
  sum (a ∷ p) [] = a ∷ p
  sum (a ∷ p) (b ∷ q) = (a + b) ∷ sum p q

  unfoldable pub scaled : F → List F → List F
  scaled a [] = []
  scaled a (b ∷ q) = a * b ∷ scaled a q

  unfoldable pub product : List F → List F → List F
  product [] q = []
  product (a ∷ p) q = sum (scaled a q) (𝟘 ∷ product p q)

  -- the value of the polynomial at x
  unfoldable pub value : List F → F → F
  value [] x = 𝟘
  value (a ∷ p) x = a + x * value p x

  -- X + r
  unfoldable pub linear : F → List F
  linear r = r ∷ 𝟙 ∷ []
