-- What a search over the numbers below n answers.
use Rattle.std.proofs.Common.{◌≡◌, ℕ, ◌<◌, ◌≤◌, Bool, true, false, Some, None, Option, sym, arith}
use Rattle.std.specs.Option.{MatchOption}
use Rattle.layout.proofs.Firsts.{first_at, none_below}
use Rattle.layout.specs.First.{first_below}

pub found : (test : ℕ → Bool) (n : ℕ) (r : Option ℕ) →
    MatchOption r ((k : ℕ) → 0 ≤ k → k < n → test k ≡ false)
    (λ i. (0 ≤ i) × (i < n) × (test i ≡ true) × ((k : ℕ) → 0 ≤ k → k < i → test k ≡ false)) → r ≡ first_below test n
found test n None h = sym (none_below test n (λ k b. h k (omega arith) b))
found test n (Some i) h = sym (first_at test n i (record { below = h.1; passes = h.2; none_before = λ k b. h.3 k (omega arith) b }))
