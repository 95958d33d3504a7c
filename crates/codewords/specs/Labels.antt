-- Making a cassette label: eleven digits of data and four of check.
use Rattle.std.specs.Prelude.{◌≡◌, ℕ, List, length, take, Ok, Result}
use Rattle.galois.specs.Fields.{gf16}
use Rattle.denial.specs.Denials.{denied}
use Rattle.denial.specs.declared.Denial.{Denial}
use Rattle.denial.specs.declared.Reason.TheVariants.{Wide, Length}
use Rattle.denial.specs.declared.Layer.TheVariants.{Code}
use Rattle.codewords.specs.Bytes.{Refused, CodedBytes, AllNumbers, FirstWide}

-- The label of eleven digits begins with them, and is coded.
pub record LabelOf (digits label : List ℕ) : Type 0 where
  pub begins : take 11 label ≡ digits
  pub coded : CodedBytes gf16 15 label

-- Making a label of `digits` left `after` where `before` stood, and answered r. The refusals come in this order.
pub record LabelMade (digits before after : List ℕ) (r : Result (Unit {0}) Denial) : Type 0 where
  pub wrong_digits : ¬ (length digits ≡ 11) → Refused before after r (denied Length Code (length digits) 0)
  pub wrong_place : length digits ≡ 11 → ¬ (length before ≡ 15) → Refused before after r (denied Length Code (length before) 0)
  pub too_wide : length digits ≡ 11 → length before ≡ 15 → (i : ℕ) → FirstWide gf16 digits i →
      Refused before after r (denied Wide Code 0 i)
  -- the label is left, and there is no other
  pub made : length digits ≡ 11 → length before ≡ 15 → AllNumbers gf16 digits →
      (r ≡ Ok tt) × LabelOf digits after × ((v : List ℕ) → LabelOf digits v → v ≡ after)
