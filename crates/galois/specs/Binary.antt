-- Polynomials over two elements, each written as a number: bit k is the coefficient of X^k. P is the polynomial by which
-- products are reduced; its degree is n + 1.
use Rattle.std.specs.Prelude.{ℕ, zero, suc, ◌*◌, ◌/◌, ◌%◌, ◌^◌, bit_xor}

-- X times y: y moved up by one bit, and P added where that reaches its degree
unfoldable pub shift : ℕ → ℕ → ℕ → ℕ
shift n P y = bit_xor (y * 2) (y / 2 ^ n % 2 * P)

-- X^k times y
unfoldable pub shifts : ℕ → ℕ → ℕ → ℕ → ℕ
shifts n P zero y = y
shifts n P (suc k) y = shift n P (shifts n P k y)

-- the lowest m bits of x times y: for each bit k of x that is set, X^k times y, added up
unfoldable pub product : ℕ → ℕ → ℕ → ℕ → ℕ → ℕ
product n P zero x y = zero
product n P (suc m) x y = bit_xor (x % 2 * y) (product n P m (x / 2) (shift n P y))
