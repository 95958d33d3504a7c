-- Arrays that a function fills.
use Rattle.std.proofs.Common.{◌≡◌, ℕ, zero, suc, ◌+◌, ◌<◌, ◌≤◌, List, get_or, ap, ◌∙◌, sym, subst, inl, inr, arith}
use Rattle.std.proofs.lemmas.Bool.{cases_lt}
use Rattle.std.specs.Array.{IsFromFnResultFrom}
use Rattle.std.specs.Fn.{Called}
use denote.Param.Members.{Mut}

-- A function that gives h of each number, and stays as it is, fills the list with these.
pub filled : {F : Type 0} {g : Mut F (ℕ × Unit {0}) ℕ} (h : ℕ → ℕ) (f : F) (ys : List ℕ) →
    ((i y : ℕ) (q : F) → Called g f (i, tt) y q → (q ≡ f) × (y ≡ h i)) →
    (n i : ℕ) → IsFromFnResultFrom g f ys i n → (k : ℕ) → i ≤ k → k < i + n → get_or ys k 0 ≡ h k
filled h f ys calls zero i _ k low high = absurd (omega arith)
filled {g = g} h f ys calls (suc n) i (q, y, at, call, more) k low high =
    elim (cases_lt i k) [
      | inl after ↦
          filled {g = g} h f ys calls n (i + 1) (subst (λ p. IsFromFnResultFrom g p ys (i + 1) n) (calls i y q call).0 more) k (omega arith) (omega arith)
      | inr here ↦
          let same : k ≡ i = omega arith in
          ap (λ k. get_or ys k 0) same ∙ at.1 0 ∙ (calls i y q call).1 ∙ ap h (sym same)
    ]
