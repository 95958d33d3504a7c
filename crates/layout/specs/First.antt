-- The first number that passes a test.
use Rattle.std.specs.Prelude.{◌≡◌, ℕ, zero, suc, ◌<◌, Bool, true, false, cond, ◌↔◌, Some, None, Option}

-- o, or the number where it is none and the number passes.
abbrev pub or_else : Option ℕ → Bool → ℕ → Option ℕ
or_else (Some i) passes n = Some i
or_else None passes n = cond passes (Some n) None

-- The first number below n that passes the test.
unfoldable pub first_below : (ℕ → Bool) → ℕ → Option ℕ
first_below test zero = None
first_below test (suc n) = or_else (first_below test n) (test n) n

-- i passes, and no number before it does.
pub record IsFirst (test : ℕ → Bool) (n i : ℕ) : Type 0 where
  pub below : i < n
  pub passes : test i ≡ true
  pub none_before : (k : ℕ) → k < i → test k ≡ false

-- That is what it means.
pub record FirstFound : Type 0 where
  pub some : (test : ℕ → Bool) (n i : ℕ) → (first_below test n ≡ Some i) ↔ IsFirst test n i
  pub none : (test : ℕ → Bool) (n : ℕ) → (first_below test n ≡ None) ↔ ((k : ℕ) → k < n → test k ≡ false)
