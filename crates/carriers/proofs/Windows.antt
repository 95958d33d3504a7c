-- What a write to the carrier below does to what a window over it shows and hides.
use Rattle.std.proofs.Common.{◌≡◌, ℕ, ◌+◌, cond, ◌&&◌, leb, Ok, Err, Result, refl, ap, ◌∙◌, arith}
use Rattle.std.proofs.lemmas.Bool.Decides.{nat_tests}
use Rattle.denial.specs.declared.Denial.{Denial}
use Rattle.carriers.specs.Meaning.{lacking, Meaning, written}
use Rattle.carriers.specs.Rates.{beside, is_field, seen, start_of}
use Rattle.carriers.proofs.Meanings.{same_meaning}

-- The answer to which line below is the window's.
abbrev told : ℕ → ℕ → ℕ → ℕ → Result ℕ Denial
told rate field line word = cond (is_field rate field && leb line 211) (Ok (start_of rate field + line)) (Err (lacking line word))

-- A write to a line that the window has.
module _ (rate field : ℕ) (m n : Meaning) (below line word value : ℕ) (is : Ok below ≡ told rate field line word) (after : n ≡ written m below word value) where
  pub seen_written : seen rate field n ≡ written (seen rate field m) line word value
  seen_written = ap (seen rate field) after ∙ same_meaning refl refl (λ l w. grind (arith, nat_tests))

  pub beside_written : beside rate field n ≡ beside rate field m
  beside_written = ap (beside rate field) after ∙ same_meaning refl refl (λ l w. grind (arith, nat_tests))

-- A write to a line that the window lacks.
pub seen_kept : (rate field : ℕ) (m : Meaning) (line word value : ℕ) (d : Denial) → Err d ≡ told rate field line word →
    seen rate field m ≡ written (seen rate field m) line word value
seen_kept rate field m line word value d is = same_meaning refl refl (λ l w. grind (arith, nat_tests))
