-- The elements of the two fields, and the laws of both.
use Rattle.std.specs.Prelude.{◌≡◌, ℕ, ◌+◌, ◌-◌, ◌*◌, ◌%◌, ◌<◌, ◌≤◌, T, bit_xor, nat_eq, slice_index, refl}
use Rattle.std.proofs.Common.{subst, sub-add_cancel, arith, eqb→eq}
use mathlib.Core.HLevel.{is_prop→PathP}
use Rattle.std.proofs.Math.Bridge.{le_prop}
use Rattle.galois.specs.Field.{Laws}
use Rattle.galois.specs.Fields.{of_byte, of_digit, gf256, gf16}
use Rattle.galois.specs.declared.element.Element.{Element}
use Rattle.galois.specs.Binary.{shift, shifts}
use Rattle.galois.specs.Galois.{each, both, at}
use Rattle.galois.specs.Laws.{Coded, laws}
use Rattle.galois.specs.Tables.{powers256, powers16}
use Rattle.galois.specs.Sound.{sound256, sound16}

pub same : {size : ℕ} → (x y : Element size) → x.bits ≡ y.bits → x ≡ y
same {size} x y e = λ i. record { bits = e i; below = is_prop→PathP (λ i. e i < size) (λ i. le_prop) x.below y.below i }

pub coded256 : Coded (Element 256) 256 (λ x. x.bits) of_byte
coded256 = record { below = λ x. x.below; back = λ b. refl; same = same }

pub coded16 : Coded (Element 16) 16 (λ x. x.bits) of_digit
coded16 = record { below = λ x. x.below; back = λ b. refl; same = same }

pub laws256 : Laws gf256
laws256 = laws sound256 coded256

pub laws16 : Laws gf16
laws16 = laws sound16 coded16

-- 256 elements: the table of powers, and a shift

table256 : T (each (λ k. nat_eq (slice_index powers256 k) (shifts 7 285 k 1)) 510)
unfolding shift shifts each both
table256 = tt

pub power256 : (k : ℕ) → k < 510 → slice_index powers256 k ≡ shifts 7 285 k 1
power256 k h = eqb→eq _ _ (at (λ k. nat_eq (slice_index powers256 k) (shifts 7 285 k 1)) 510 table256 k h)

low256_test : T (each (λ x. nat_eq ((x * 2) % 256) (shift 7 285 x)) 128)
unfolding shift each both
low256_test = tt

pub low256 : (x : ℕ) → x < 128 → (x * 2) % 256 ≡ shift 7 285 x
low256 x h = eqb→eq _ _ (at (λ x. nat_eq ((x * 2) % 256) (shift 7 285 x)) 128 low256_test x h)

high256_test : T (each (λ k. nat_eq (bit_xor (((k + 128) * 2) % 256) 29) (shift 7 285 (k + 128))) 128)
unfolding shift each both
high256_test = tt

pub high256 : (x : ℕ) → 128 ≤ x → x < 256 → bit_xor ((x * 2) % 256) 29 ≡ shift 7 285 x
high256 x l h =
    subst (λ (y : ℕ). bit_xor ((y * 2) % 256) 29 ≡ shift 7 285 y) (sub-add_cancel l)
    (eqb→eq _ _ (at (λ k. nat_eq (bit_xor (((k + 128) * 2) % 256) 29) (shift 7 285 (k + 128))) 128 high256_test (x - 128) (omega arith)))

-- 16 elements: the table of powers, and a shift

table16 : T (each (λ k. nat_eq (slice_index powers16 k) (shifts 3 19 k 1)) 30)
unfolding shift shifts each both
table16 = tt

pub power16 : (k : ℕ) → k < 30 → slice_index powers16 k ≡ shifts 3 19 k 1
power16 k h = eqb→eq _ _ (at (λ k. nat_eq (slice_index powers16 k) (shifts 3 19 k 1)) 30 table16 k h)

low16_test : T (each (λ x. nat_eq ((x * 2) % 256) (shift 3 19 x)) 8)
unfolding shift each both
low16_test = tt

pub low16 : (x : ℕ) → x < 8 → (x * 2) % 256 ≡ shift 3 19 x
low16 x h = eqb→eq _ _ (at (λ x. nat_eq ((x * 2) % 256) (shift 3 19 x)) 8 low16_test x h)

high16_test : T (each (λ k. nat_eq (bit_xor (((k + 8) * 2) % 256) 19) (shift 3 19 (k + 8))) 8)
unfolding shift each both
high16_test = tt

pub high16 : (x : ℕ) → 8 ≤ x → x < 16 → bit_xor ((x * 2) % 256) 19 ≡ shift 3 19 x
high16 x l h =
    subst (λ (y : ℕ). bit_xor ((y * 2) % 256) 19 ≡ shift 3 19 y) (sub-add_cancel l)
    (eqb→eq _ _ (at (λ k. nat_eq (bit_xor (((k + 8) * 2) % 256) 19) (shift 3 19 (k + 8))) 8 high16_test (x - 8) (omega arith)))
