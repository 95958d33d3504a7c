-- The two fields: 256 elements modulo X^8 + X^4 + X^3 + X^2 + 1, and 16 elements modulo X^4 + X + 1. In both alpha is X.
use Rattle.std.specs.Prelude.{ℕ, suc, ◌-◌, ◌%◌, ◌^◌, bit_xor}
use Rattle.std.proofs.Common.{mod-lt, lit<}
use Rattle.galois.specs.Binary.{product}
use Rattle.galois.specs.Field.{Arithmetic}
use Rattle.galois.specs.declared.element.Element.{Element}

-- Polynomials modulo P, of degree n + 1, over a type whose values have the numbers below 2 ^ (n + 1). Addition is exclusive or.
abbrev pub binary_field : {F : Type 0} → ℕ → ℕ → (F → ℕ) → (ℕ → F) → Arithmetic F
binary_field n P bits of = record {
  zero = of 0;
  one = of 1;
  alpha = of 2;
  plus = λ x y. of (bit_xor (bits x) (bits y));
  times = λ x y. of (product n P (suc n) (bits x) (bits y));
  order = 2 ^ suc n - 1;
  size = 2 ^ suc n;
  number = bits;
}

-- The same over the elements of a size, each known by its bits.
abbrev pub numbered : {size : ℕ} → ℕ → ℕ → (ℕ → Element size) → Arithmetic (Element size)
numbered n P of = binary_field n P (λ x. x.bits) of

-- the element of the lowest eight bits of a number
abbrev pub of_byte : ℕ → Element 256
of_byte b = record { bits = b % 256; below = mod-lt b (lit< tt) }

-- 285 has the bits of X^8 + X^4 + X^3 + X^2 + 1
abbrev pub gf256 : Arithmetic (Element 256)
gf256 = numbered 7 285 of_byte

-- the element of the lowest four bits of a number
abbrev pub of_digit : ℕ → Element 16
of_digit b = record { bits = b % 16; below = mod-lt b (lit< tt) }

-- 19 has the bits of X^4 + X + 1
abbrev pub gf16 : Arithmetic (Element 16)
gf16 = numbered 3 19 of_digit
