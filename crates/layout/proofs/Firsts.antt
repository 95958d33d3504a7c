-- Searching for the first number that passes a test.
use Rattle.std.proofs.Common.{◌≡◌, ℕ, zero, suc, ◌<◌, ◌≤◌, Bool, true, false, cond, ◌⊎◌, Some, None, Option, sym, refl, ap, ◌∙◌, subst, inl, inr, arith}
use Rattle.std.proofs.lemmas.Bool.{cases_Bool, cases_lt}
use Rattle.layout.specs.First.{first_below, FirstFound, IsFirst, or_else}

pub none_below : (test : ℕ → Bool) (n : ℕ) → ((k : ℕ) → k < n → test k ≡ false) → first_below test n ≡ None
unfolding first_below
none_below test zero fails = refl
none_below test (suc n) fails = rw (none_below test n (λ k h. fails k (omega arith)), fails n (omega arith))

pub first_at : (test : ℕ → Bool) (n i : ℕ) → IsFirst test n i → first_below test n ≡ Some i
unfolding first_below
first_at test zero i is = absurd (omega (arith, is.below))
first_at test (suc n) i is = go (cases_lt i n) (λ h. first_at test n i (record { below = h; passes = is.passes; none_before = is.none_before }))
  where
    go : (i < n) ⊎ (n ≤ i) → (i < n → first_below test n ≡ Some i) → or_else (first_below test n) (test n) n ≡ Some i
    go (inl h) before = rw (before h)
    go (inr h) before =
        let e : i ≡ n = omega (arith, is.below) in
        let none : first_below test n ≡ None = none_below test n (λ k b. is.none_before k (omega arith)) in
        let yes : test n ≡ true = ap test (sym e) ∙ is.passes in
        rw (none, yes) (ap Some (sym e))

-- What an answer says.
abbrev Says : (ℕ → Bool) → ℕ → Option ℕ → Type 0
Says test n None = (k : ℕ) → k < n → test k ≡ false
Says test n (Some i) = IsFirst test n i

step : (test : ℕ → Bool) (n : ℕ) (o : Option ℕ) → Says test n o → Says test (suc n) (or_else o (test n) n)
step test n (Some i) is = record { below = omega (arith, is.below); passes = is.passes; none_before = is.none_before }
step test n None fails = go (cases_Bool (test n))
  where
    go : (test n ≡ true) ⊎ (test n ≡ false) → Says test (suc n) (cond (test n) (Some n) None)
    go (inl is) = rw is (record { below = omega arith; passes = is; none_before = fails })
    go (inr out) = rw out (λ k h. one k h (cases_lt k n))
      where
        one : (k : ℕ) → k < suc n → (k < n) ⊎ (n ≤ k) → test k ≡ false
        one k h (inl b) = fails k b
        one k h (inr b) = let e : k ≡ n = omega arith in ap test e ∙ out

says : (test : ℕ → Bool) (n : ℕ) → Says test n (first_below test n)
unfolding first_below
says test zero = λ k h. absurd (omega arith)
says test (suc n) = step test n (first_below test n) (says test n)

pub first_found : FirstFound
first_found = record {
  some = λ test n i. (λ e. subst (Says test n) e (says test n), first_at test n i);
  none = λ test n. (λ e. subst (Says test n) e (says test n), none_below test n);
}
