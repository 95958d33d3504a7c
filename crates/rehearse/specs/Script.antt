-- The commands of a script.
use Rattle.std.specs.Prelude.{ℕ, List, [], ◌∷◌, map, Ok, Err, Result}
use Rattle.std.specs.List.{range_with_len}
use Rattle.transfer.specs.declared.steps.Step.{Step}
use Rattle.transfer.specs.declared.steps.Step.TheVariants.{Offer, Write}
use Rattle.rehearse.specs.declared.script.Command.{Command}
use Rattle.rehearse.specs.declared.script.Command.TheVariants.{OfferAll, One, Pass}
use Rattle.rehearse.specs.declared.script.Wrong.{Wrong}

-- A write, where each of its numbers is one; else what is wrong with the first that is not.
abbrev pub write_of : Result ℕ Wrong → Result ℕ Wrong → Result ℕ Wrong → Result Command Wrong
write_of (Err e) word value = Err e
write_of (Ok line) (Err e) value = Err e
write_of (Ok line) (Ok word) (Err e) = Err e
write_of (Ok line) (Ok word) (Ok value) = Ok (One (Write line word value))

-- An offer of every line of a field in turn.
abbrev pub all_offers : List Step
all_offers = map Offer (range_with_len 0 212)

-- The steps that a command stands for.
abbrev pub steps_of : Command → List Step
steps_of Pass = []
steps_of (One step) = step ∷ []
steps_of OfferAll = all_offers
