-- Equal meanings, and writes into runs.
use Rattle.std.proofs.Common.{◌≡◌, ℕ, ◌-◌, ◌*◌, ◌/◌, ◌<◌, ◌≤◌, true, false, ◌≢◌, List, length, get_or, set, Ok, refl, arith, length-set, get_or-set_other, get_or-set_same, drop-set-lt}
use Rattle.std.proofs.lemmas.Bool.Decides.{nat_tests}
use Rattle.carriers.specs.Meaning.{accepts, has, Meaning, written}
use Rattle.carriers.specs.Runs.{behind, end_of, place_in, placed_for, run, sheet}

pub same_meaning : {m n : Meaning} → m.first ≡ n.first → m.end ≡ n.end → ((l w : ℕ) → m.word l w ≡ n.word l w) → m ≡ n
same_meaning f e g = λ i. record { first = f i; end = e i; word = λ l w. g l w i }

-- A refused write changes nothing.
pub refused_same : (m : Meaning) (line word value : ℕ) → accepts m line word value ≡ false → m ≡ written m line word value
refused_same m line word value h = same_meaning refl refl (λ l w. rw h)

-- One number of a run is set, at the place that `placed_for` answers.
pub run_placed : (first lines line word value place : ℕ) (old new : ℕ → ℕ) → Ok place ≡ placed_for first lines line word value → new place ≡ value →
    ((k : ℕ) → k ≢ place → new k ≡ old k) → run first lines new ≡ written (run first lines old) line word value
run_placed first lines line word value place old new is here there =
    same_meaning refl refl (λ l w. grind (arith, nat_tests, there (place_in first l w)))

-- One number of a run is set, at a place that it has.
pub run_written : (first lines line word value : ℕ) (old new : ℕ → ℕ) → has (run first lines old) line word ≡ true → value ≤ 1023 →
    new (place_in first line word) ≡ value → ((k : ℕ) → k ≢ place_in first line word → new k ≡ old k) →
    run first lines new ≡ written (run first lines old) line word value
run_written first lines line word value old new held narrow here there =
    let is : Ok (place_in first line word) ≡ placed_for first lines line word value = grind (arith, nat_tests) in
    run_placed first lines line word value (place_in first line word) old new is here there

-- What stands behind the lines of a run is left by what is set on them.
pub behind_set : (size first : ℕ) (items : List ℕ) (k v : ℕ) → k < (end_of first (length items / size) - first) * size →
    behind size first (set items k v) ≡ behind size first items
behind_set size first items k v h = rw (length-set items k v) (drop-set-lt _ items k v h)

-- The numbers of a run stand in a list.
pub list_written : (first lines : ℕ) (words : List ℕ) (line word value place : ℕ) → Ok place ≡ placed_for first lines line word value → place < length words →
    run first lines (λ k. get_or (set words place value) k 0) ≡ written (run first lines (λ k. get_or words k 0)) line word value
list_written first lines words line word value place is inside =
    run_placed first lines line word value place (λ k. get_or words k 0) (λ k. get_or (set words place value) k 0) is
    (get_or-set_same words place value 0 inside) (λ k other. get_or-set_other words place k value 0 other)

pub sheet_written : (first : ℕ) (words : List ℕ) (line word value place : ℕ) → Ok place ≡ placed_for first (length words / 1440) line word value →
    sheet first (set words place value) ≡ written (sheet first words) line word value
sheet_written first words line word value place is =
    rw (length-set words place value) (list_written first (length words / 1440) words line word value place is (grind (arith, nat_tests)))
