-- What division by the generator leaves of each element times X⁴, by one computed test over each field.
use Rattle.std.specs.Prelude.{◌≡◌, ℕ, ◌<◌, Bool, T, List, nat_eq, nat_lt, slice_index, refl}
use Rattle.std.proofs.Common.{sym, ap, ◌∙◌, mod-eq_of_lt, eqb→eq, ltb→lt, lit<}
use Rattle.galois.specs.Binary.{shift, product}
use Rattle.galois.specs.Field.{Arithmetic, power}
use Rattle.galois.specs.Fields.{of_byte, of_digit, gf256, gf16}
use Rattle.galois.specs.Roots.{cubic_at, Leaves}
use Rattle.galois.specs.declared.cubic.Cubic.{Cubic}
use Rattle.galois.specs.declared.element.Element.{Element}
use Rattle.galois.specs.Elements.{same, coded256, coded16, low256, high256, low16, high16, power256, power16}
use Rattle.galois.specs.Galois.{each, both, both_left, both_right, at}
use Rattle.galois.specs.Sound.{sound256, sound16}
use Rattle.galois.specs.Tabled.{row, Tabled}
use Rattle.galois.specs.Tables.{logs256, powers256, products256, logs16, powers16, products16}

-- whether r has the values of a X⁴ at the four roots
module _ {F : Type 0} (K : Arithmetic F) where
  abbrev agrees : F → Cubic F → ℕ → Bool
  agrees a r k = nat_eq (K.number (cubic_at K r (power K K.alpha k))) (K.number (K.times a (power K (power K K.alpha k) 4)))

  leaves : ((x y : F) → K.number x ≡ K.number y → x ≡ y) → (a : F) (r : Cubic F) → T (each (agrees a r) 4) → Leaves K a r
  leaves same a r t k h = same _ _ (eqb→eq _ _ (at (agrees a r) 4 t k h))

  pub leaves_as : {a b : F} {r s : Cubic F} → a ≡ b → r ≡ s → Leaves K b s → Leaves K a r
  leaves_as e f left k h =
      ap (λ q. cubic_at K q (power K K.alpha k)) f ∙ left k h ∙ ap (λ y. K.times y (power K (power K K.alpha k) 4)) (sym e)

-- whether the four products of a number are below n
abbrev below_row : Cubic (List ℕ) → ℕ → ℕ → Bool
below_row t n x =
    both (nat_lt (slice_index t.k3 x) n)
    (both (nat_lt (slice_index t.k2 x) n) (both (nat_lt (slice_index t.k1 x) n) (nat_lt (slice_index t.k0 x) n)))

all_below : (t : Cubic (List ℕ)) (n x : ℕ) → T (below_row t n x) →
    (slice_index t.k3 x < n) × (slice_index t.k2 x < n) × (slice_index t.k1 x < n) × (slice_index t.k0 x < n)
all_below t n x h =
    let r2 = both_right _ _ h in
    let r1 = both_right _ _ r2 in
    (ltb→lt _ _ (both_left _ _ h), ltb→lt _ _ (both_left _ _ r2), ltb→lt _ _ (both_left _ _ r1), ltb→lt _ _ (both_right _ _ r1))

abbrev pub row256 : ℕ → Cubic (Element 256)
row256 x = row of_byte products256 x

rows256 : T (each (λ x. each (agrees gf256 (of_byte x) (row256 x)) 4) 256)
unfolding shift product power each both
rows256 = tt

pub left256 : (x : Element 256) → Leaves gf256 x (row256 x.bits)
left256 x =
    let h = x.below in
    leaves_as gf256 (same x (of_byte x.bits) (sym (mod-eq_of_lt h))) (λ i. row256 x.bits)
    (leaves gf256 same (of_byte x.bits) (row256 x.bits) (at (λ x. each (agrees gf256 (of_byte x) (row256 x)) 4) 256 rows256 x.bits h))

abbrev pub row16 : ℕ → Cubic (Element 16)
row16 x = row of_digit products16 x

rows16 : T (each (λ x. each (agrees gf16 (of_digit x) (row16 x)) 4) 16)
unfolding shift product power each both
rows16 = tt

pub left16 : (x : Element 16) → Leaves gf16 x (row16 x.bits)
left16 x =
    let h = x.below in
    leaves_as gf16 (same x (of_digit x.bits) (sym (mod-eq_of_lt h))) (λ i. row16 x.bits)
    (leaves gf16 same (of_digit x.bits) (row16 x.bits) (at (λ x. each (agrees gf16 (of_digit x) (row16 x)) 4) 16 rows16 x.bits h))

below256 : T (each (below_row products256 256) 256)
unfolding each both
below256 = tt

pub tabled256 : Tabled 256 7 285 of_byte logs256 powers256 products256 29
tabled256 = record {
  size_is = refl;
  small = lit< tt;
  sound = sound256;
  coded = coded256;
  all_powers = refl;
  powers_are = power256;
  low = low256;
  high = high256;
  products_below = λ x h. all_below products256 256 x (at (below_row products256 256) 256 below256 x h);
  products_leave = left256;
}

below16 : T (each (below_row products16 16) 16)
unfolding each both
below16 = tt

pub tabled16 : Tabled 16 3 19 of_digit logs16 powers16 products16 19
tabled16 = record {
  size_is = refl;
  small = lit< tt;
  sound = sound16;
  coded = coded16;
  all_powers = refl;
  powers_are = power16;
  low = low16;
  high = high16;
  products_below = λ x h. all_below products16 16 x (at (below_row products16 16) 16 below16 x h);
  products_leave = left16;
}
