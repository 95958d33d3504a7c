-- The numbers of a script.
use Rattle.std.specs.Prelude.{ℕ, ◌+◌, ◌-◌, ◌*◌, ◌^◌, cond, ◌&&◌, List, [], ◌∷◌, length, drop, Some, None, Ok, Err, fold, Option, Result, ◌==◌, nat_le, nat_lt, slice_index}
use Rattle.rehearse.specs.declared.script.Wrong.{Wrong}
use Rattle.rehearse.specs.declared.script.Wrong.TheVariants.{Number, Range}

-- What a character counts as a digit: 0 to 9, a to f, A to F.
abbrev pub digit_of : ℕ → Option ℕ
digit_of c =
    cond (nat_le 48 c && nat_le c 57) (Some (c - 48))
    (cond (nat_le 97 c && nat_le c 102) (Some (c - 97 + 10))
    (cond (nat_le 65 c && nat_le c 70) (Some (c - 65 + 10)) None))

-- A number that has to fit 64 bits.
abbrev pub fitting : ℕ → Result ℕ Wrong
fitting n = cond (nat_lt n (2 ^ 64)) (Ok n) (Err Range)

-- A number with one more digit behind it.
abbrev pub with_digit : ℕ → ℕ → Option ℕ → Result ℕ Wrong
with_digit base n None = Err Number
with_digit base n (Some d) = cond (nat_lt d base) (fitting (n * base + d)) (Err Number)

-- The same with a character, where there was no fault before it.
abbrev pub appended : ℕ → Result ℕ Wrong → ℕ → Result ℕ Wrong
appended base (Ok n) c = with_digit base n (digit_of c)
appended base (Err e) c = Err e

-- What characters say as the digits of a number.
abbrev pub number_in : ℕ → List ℕ → Result ℕ Wrong
number_in base [] = Err Number
number_in base (c ∷ cs) = fold (appended base) (Ok 0) (c ∷ cs)

-- The number that a word writes: hexadecimal after `0x`, else decimal.
abbrev pub number_of : List ℕ → Result ℕ Wrong
number_of word =
    cond (nat_le 2 (length word) && (slice_index word 0 == 48 && slice_index word 1 == 120)) (number_in 16 (drop 2 word)) (number_in 10 word)

-- The same in sixteen bits.
abbrev pub narrow : Result ℕ Wrong → Result ℕ Wrong
narrow (Ok n) = cond (nat_le n 65535) (Ok n) (Err Range)
narrow (Err e) = Err e
