-- A line that was offered sound has a worst sound copy.
use Rattle.std.proofs.Common.{◌≡◌, ℕ, ◌≤◌, true, ◌⊎◌, List, [], ◌∷◌, ◌++◌, Some, None, Option, sym, refl, ap, subst, inl, inr, arith}
use Rattle.std.proofs.lemmas.Bool.{cases_Bool, cases_eq, cases_lt, both_ways}
use Rattle.carriers.specs.Meaning.{has, Meaning}
use Rattle.denial.specs.declared.Denial.{Denial}
use Rattle.receiver.proofs.Faults.{faults_found}
use Rattle.receiver.specs.Offers.{fault}
use Rattle.transfer.proofs.Lists.{not_empty}
use Rattle.transfer.specs.Promise.{altered_on, Worst}
use Rattle.transfer.specs.Steps.{after_steps, OfferedSound, SoundCopy, SoundLine}
use Rattle.transfer.specs.declared.steps.Step.{Step}
use Rattle.transfer.specs.declared.steps.Step.TheVariants.{Offer, Write}

sound_by : (c : Meaning) (n : ℕ) → has c n 0 ≡ true → (o : Option Denial) → fault (c.word n) n ≡ o → SoundLine c n ⊎ (SoundLine c n → ⊥)
sound_by c n here None e = inl (record { here = here; sound = (faults_found (c.word n) n).0 e })
sound_by c n here (Some d) e = inr (λ s. let none = (faults_found (c.word n) n).1 s.sound in cc)

sound_or_not : (c : Meaning) (n : ℕ) → SoundLine c n ⊎ (SoundLine c n → ⊥)
sound_or_not c n =
    elim (cases_Bool (has c n 0)) [
      | inl here ↦ sound_by c n here (fault (c.word n) n) refl
      | inr out ↦ inr (λ s. both_ways (has c n 0) out s.here)
    ]

-- After b the list offers line n, and S holds of b.
record Found (S : List Step → Type 0) (ss b : List Step) (n : ℕ) : Type 0 where
  rest : List Step
  there : ss ≡ b ++ Offer n ∷ rest
  here : S b

-- k is the most that h is of such a b.
record Best (S : List Step → Type 0) (h : List Step → ℕ) (ss : List Step) (n k : ℕ) : Type 0 where
  reached : (b : List Step) × Found S ss b n × (h b ≡ k)
  most : (b : List Step) → Found S ss b n → h b ≤ k

module _ (S : List Step → Type 0) (h : List Step → ℕ) (x : Step) (ss : List Step) (n : ℕ) where
  found_later : (b : List Step) → Found (λ c. S (x ∷ c)) ss b n → Found S (x ∷ ss) (x ∷ b) n
  found_later b q = record { rest = q.rest; there = ap (λ t. x ∷ t) q.there; here = q.here }

  found_here : x ≡ Offer n → S [] → Found S (x ∷ ss) [] n
  found_here is s = record { rest = ss; there = ap (λ t. t ∷ ss) is; here = s }

  bound : (k : ℕ) → (x ≡ Offer n → S [] → h [] ≤ k) → ((b : List Step) → Found (λ c. S (x ∷ c)) ss b n → h (x ∷ b) ≤ k)
      → (b : List Step) → Found S (x ∷ ss) b n → h b ≤ k
  bound k first later [] q = let t = q.there in let is : x ≡ Offer n = cc in first is q.here
  bound k first later (y ∷ b) q =
      let t = q.there in
      let is : y ≡ x = cc in
      let tail : ss ≡ b ++ Offer n ∷ q.rest = cc in
      let T : Step → Type 0 = λ z. S (z ∷ b) in
      let L : Step → Type 0 = λ z. h (z ∷ b) ≤ k in
      subst L (sym is) (later b (record { rest = q.rest; there = tail; here = subst T is q.here }))

  none_found : ((x ≡ Offer n) × S [] → ⊥) → ((b : List Step) → Found (λ c. S (x ∷ c)) ss b n → ⊥) → (b : List Step) → Found S (x ∷ ss) b n → ⊥
  none_found first later [] q = let t = q.there in let is : x ≡ Offer n = cc in first (is, q.here)
  none_found first later (y ∷ b) q =
      let t = q.there in
      let is : y ≡ x = cc in
      let tail : ss ≡ b ++ Offer n ∷ q.rest = cc in
      let T : Step → Type 0 = λ z. S (z ∷ b) in
      later b (record { rest = q.rest; there = tail; here = subst T is q.here })

  later_best : (k : ℕ) → (x ≡ Offer n → S [] → h [] ≤ k) → Best (λ c. S (x ∷ c)) (λ c. h (x ∷ c)) ss n k → Best S h (x ∷ ss) n k
  later_best k first b = record {
    reached = (x ∷ b.reached.0, found_later b.reached.0 b.reached.1, b.reached.2);
    most = bound k first b.most;
  }

  here_best : x ≡ Offer n → S [] → ((b : List Step) → Found (λ c. S (x ∷ c)) ss b n → h (x ∷ b) ≤ h []) → Best S h (x ∷ ss) n (h [])
  here_best is s later = record { reached = ([], found_here is s, refl); most = bound (h []) (λ _ _. omega arith) later }

  join : ((x ≡ Offer n) × S []) ⊎ ((x ≡ Offer n) × S [] → ⊥)
      → ((b : List Step) → Found (λ c. S (x ∷ c)) ss b n → ⊥) ⊎ ((k : ℕ) × Best (λ c. S (x ∷ c)) (λ c. h (x ∷ c)) ss n k)
      → ((b : List Step) → Found S (x ∷ ss) b n → ⊥) ⊎ ((k : ℕ) × Best S h (x ∷ ss) n k)
  join (inl y) (inl none) = inr (h [], here_best y.0 y.1 (λ b q. absurd (none b q)))
  join (inl y) (inr r) =
      elim (cases_lt r.0 (h [])) [
        | inl l ↦ inr (h [], here_best y.0 y.1 (λ c q. let m : h (x ∷ c) ≤ r.0 = r.1.most c q in omega arith))
        | inr l ↦ inr (r.0, later_best r.0 (λ _ _. l) r.1)
      ]
  join (inr ne) (inl none) = inl (none_found ne none)
  join (inr ne) (inr r) = inr (r.0, later_best r.0 (λ is s. absurd (ne (is, s))) r.1)

is_here : (x : Step) (n : ℕ) (A : Type 0) → A ⊎ (A → ⊥) → ((x ≡ Offer n) × A) ⊎ ((x ≡ Offer n) × A → ⊥)
is_here (Write l w v) n A d = inr (λ t. let i = t.0 in cc)
is_here (Offer k) n A d =
    elim (cases_eq k n) [
      | inl s ↦ elim d [ inl a ↦ inl (ap Offer s, a) | inr na ↦ inr (λ t. na t.1) ]
      | inr ne ↦ inr (λ t. let i = t.0 in ne (cc))
    ]

best : (ss : List Step) (S : List Step → Type 0) → ((b : List Step) → S b ⊎ (S b → ⊥)) → (h : List Step → ℕ) (n : ℕ)
    → ((b : List Step) → Found S ss b n → ⊥) ⊎ ((k : ℕ) × Best S h ss n k)
best [] S d h n = inl (λ b q. not_empty b q.rest (Offer n) q.there)
best (x ∷ ss) S d h n = join S h x ss n (is_here x n (S []) (d [])) (best ss (λ b. S (x ∷ b)) (λ b. d (x ∷ b)) (λ b. h (x ∷ b)) n)

pub worst : (mapped : Meaning) (ss : List Step) (p c n : ℕ) → OfferedSound mapped ss n → (k : ℕ) × Worst mapped ss p c n k
worst mapped ss p c n o =
    let S : List Step → Type 0 = λ b. SoundLine (after_steps mapped b) n in
    let found : (b : List Step) → SoundCopy mapped ss b n → Found S ss b n = λ b q. record { rest = q.rest; there = q.there; here = q.sound } in
    elim (best ss S (λ b. sound_or_not (after_steps mapped b) n) (altered_on mapped ss p c n) n) [
      | inl none ↦ absurd (none o.0 (found o.0 o.1))
      | inr r ↦
          let q = r.1.reached in (
            r.0,
            record {
              reached = (q.0, record { rest = q.1.rest; there = q.1.there; sound = q.1.here }, q.2);
              most = λ b s. r.1.most b (found b s);
            },
          )
    ]
