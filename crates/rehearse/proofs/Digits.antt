-- Digits that are there are read from the first on.
use Rattle.std.proofs.Common.{◌≡◌, ℕ, false, eqb, List, [], ◌∷◌, length, Ok, fold, sym, refl, true≢false}
use Rattle.rehearse.specs.Numbers.{appended, number_in}

pub number_read : (base : ℕ) (xs : List ℕ) → false ≡ eqb (length xs) 0 → number_in base xs ≡ fold (appended base) (Ok 0) xs
number_read base [] h = absurd (true≢false (sym h))
number_read base (x ∷ xs) h = refl
