-- Making a coded block: 219 bytes of a basic block, a reserved one and four of check.
use Rattle.std.specs.Prelude.{◌≡◌, ℕ, ◌<◌, List, [], ◌∷◌, ◌++◌, length, Ok, Result, slice_index}
use Rattle.galois.specs.Fields.{gf256}
use Rattle.denial.specs.Denials.{denied}
use Rattle.denial.specs.declared.Denial.{Denial}
use Rattle.denial.specs.declared.Reason.TheVariants.{Length}
use Rattle.denial.specs.declared.Layer.TheVariants.{Field, Code}
use Rattle.codewords.specs.Bytes.{Refused, CodedFrom}

-- The coded block of a basic block: its 219 bytes, the reserved byte, which is 0, and four check bytes, so that the generator
-- divides the whole.
abbrev pub BlockOf : List ℕ → List ℕ → Type 0
BlockOf basic block = CodedFrom gf256 224 (basic ++ (0 ∷ [])) block

-- Making the coded block of `basic` left `after` where `before` stood, and answered r. The refusals come in this order.
pub record BlockMade (basic before after : List ℕ) (r : Result (Unit {0}) Denial) : Type 0 where
  pub wrong_bytes : ¬ (length basic ≡ 219) → Refused before after r (denied Length Field (length basic) 0)
  pub wrong_place : length basic ≡ 219 → ¬ (length before ≡ 224) → Refused before after r (denied Length Code (length before) 0)
  -- the coded block is left, and there is no other
  pub made : length basic ≡ 219 → length before ≡ 224 →
      (r ≡ Ok tt) × BlockOf basic after × ((v : List ℕ) → BlockOf basic v → v ≡ after)

-- Every basic block has a coded block, and no other.
abbrev pub OneBlock : Type 0
OneBlock =
    (basic : List ℕ) → length basic ≡ 219 → ((i : ℕ) → i < 219 → slice_index basic i < 256) →
    (v : List ℕ) × BlockOf basic v × ((u : List ℕ) → BlockOf basic u → u ≡ v)
