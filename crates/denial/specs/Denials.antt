-- The numbers and words of refusals.
use Rattle.std.specs.Prelude.{ℕ, List, [], ◌∷◌, ◌++◌, codes, decimal}
use Rattle.denial.specs.declared.Reason.{Reason}
use Rattle.denial.specs.declared.Reason.TheVariants.{Memory, Off, Wide, «Type», Empty, Mark, Held, Number, Length, Loaded, Unfilled, Short, Missing, Lost}
use Rattle.denial.specs.declared.Layer.{Layer}
use Rattle.denial.specs.declared.Layer.TheVariants.{Carrier, Line, Field, Code}
use Rattle.denial.specs.declared.Denial.{Denial}

abbrev pub number_of : Reason → ℕ
number_of Memory = 1
number_of Off = 2
number_of Wide = 3
number_of «Type» = 4
number_of Empty = 5
number_of Mark = 6
number_of Held = 7
number_of Number = 8
number_of Length = 9
number_of Loaded = 10
number_of Unfilled = 11
number_of Short = 12
number_of Missing = 13
number_of Lost = 14

abbrev pub word_of : Reason → List ℕ
word_of Memory = codes "memory"
word_of Off = codes "off"
word_of Wide = codes "wide"
word_of «Type» = codes "type"
word_of Empty = codes "empty"
word_of Mark = codes "mark"
word_of Held = codes "held"
word_of Number = codes "number"
word_of Length = codes "length"
word_of Loaded = codes "loaded"
word_of Unfilled = codes "unfilled"
word_of Short = codes "short"
word_of Missing = codes "missing"
word_of Lost = codes "lost"

abbrev pub layer_word_of : Layer → List ℕ
layer_word_of Carrier = codes "carrier"
layer_word_of Line = codes "line"
layer_word_of Field = codes "field"
layer_word_of Code = codes "code"

-- a refusal made of its parts
abbrev pub denied : Reason → Layer → ℕ → ℕ → Denial
denied reason layer first second = record { reason = reason; layer = layer; place = (first, second) }

-- fields with one space between them
abbrev pub spaced : List (List ℕ) → List ℕ
spaced [] = []
spaced (field ∷ []) = field
spaced (field ∷ next ∷ fields) = field ++ (codes " " ++ spaced (next ∷ fields))

-- what a refusal prints
abbrev pub shown_of : Denial → List ℕ
shown_of d = spaced (decimal (number_of d.reason) ∷ word_of d.reason ∷ layer_word_of d.layer ∷ decimal d.place.0 ∷ decimal d.place.1 ∷ [])
