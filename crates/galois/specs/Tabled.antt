-- What the tables of a field hold.
use Rattle.std.specs.Prelude.{◌≡◌, ℕ, suc, ◌-◌, ◌*◌, ◌%◌, ◌^◌, ◌<◌, ◌≤◌, List, length, bit_xor, slice_index}
use Rattle.std.proofs.Common.{arith}
use Rattle.galois.specs.Binary.{shift, shifts}
use Rattle.galois.specs.Field.{Laws}
use Rattle.galois.specs.Fields.{numbered}
use Rattle.galois.specs.Galois.{Sound}
use Rattle.galois.specs.Laws.{Coded, laws}
use Rattle.galois.specs.Roots.{Leaves}
use Rattle.galois.specs.declared.cubic.Cubic.{Cubic}
use Rattle.galois.specs.declared.element.Element.{Element}

-- the row of a table of four at a number
abbrev pub row : {size : ℕ} → (ℕ → Element size) → Cubic (List ℕ) → ℕ → Cubic (Element size)
row of products x = record {
  k3 = of (slice_index products.k3 x);
  k2 = of (slice_index products.k2 x);
  k1 = of (slice_index products.k1 x);
  k0 = of (slice_index products.k0 x);
}

-- For the field of 2 ^ (n + 1) elements modulo P: logarithms to the base alpha, powers of alpha twice round, products with the coefficients of
-- the generator, and what P adds below bit 8 to a number that is shifted past the field.
pub record Tabled (size n P : ℕ) (of : ℕ → Element size) (logs powers : List ℕ) (products : Cubic (List ℕ)) (reduction : ℕ) : Type 0 where
  pub size_is : size ≡ 2 ^ suc n
  pub small : size ≤ 256
  pub sound : Sound n P (size - 1) (λ x. slice_index logs x)
  pub coded : Coded (Element size) (2 ^ suc n) (λ x. x.bits) of
  pub all_powers : length powers ≡ 2 * (size - 1)
  pub powers_are : (k : ℕ) → k < 2 * (size - 1) → slice_index powers k ≡ shifts n P k 1
  pub low : (x : ℕ) → x < 2 ^ n → (x * 2) % 256 ≡ shift n P x
  pub high : (x : ℕ) → 2 ^ n ≤ x → x < size → bit_xor ((x * 2) % 256) reduction ≡ shift n P x
  pub products_below : (x : ℕ) → x < size →
      (slice_index products.k3 x < size) × (slice_index products.k2 x < size) × (slice_index products.k1 x < size) × (slice_index products.k0 x < size)
  pub products_leave : (x : Element size) → Leaves (numbered n P of) x (row of products x.bits)

-- the places of a word are bytes below 255
pub in_byte : {size n P : ℕ} {of : ℕ → Element size} {logs powers : List ℕ} {products : Cubic (List ℕ)} {reduction : ℕ} →
    Tabled size n P of logs powers products reduction → 2 ^ suc n - 1 ≤ 255
in_byte t = omega (arith, t.size_is, t.small)

pub laws_of : {size n P : ℕ} {of : ℕ → Element size} {logs powers : List ℕ} {products : Cubic (List ℕ)} {reduction : ℕ} →
    Tabled size n P of logs powers products reduction → Laws (numbered n P of)
laws_of t = laws t.sound t.coded
