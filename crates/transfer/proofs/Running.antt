-- A run goes on by one step.
use Rattle.std.proofs.Common.{◌≡◌, ℕ, ◌+◌, ◌<◌, ◌≤◌, ◌⊎◌, List, [], ◌∷◌, ◌++◌, length, get_or, take, set, Ok, Result, sym, refl, ap, ◌∙◌, subst, inl, inr, arith, length-set, get_or-set_other, get_or-set_same}
use native.Mathlib.Decide.{ℕ_discrete}
use Rattle.std.proofs.lemmas.List.{append_assoc, get_or_default, take_more}
use Rattle.carriers.specs.Meaning.{Meaning, written}
use Rattle.denial.specs.declared.Denial.{Denial}
use Rattle.transfer.proofs.Lists.{cut_end, not_empty}
use Rattle.transfer.proofs.Offering.{Line, line, offer_size, offer_unfit}
use Rattle.transfer.specs.Answers.{Answer, AnsweredIn}
use Rattle.transfer.specs.Runs.{Ends, Kept, mark_of, Ran, Taken}
use Rattle.transfer.specs.Steps.{after_steps, FirstCopy, SoundCopy, SoundLine, step_at, Stepped}
use Rattle.transfer.specs.declared.steps.Step.{Step}
use Rattle.transfer.specs.declared.steps.Step.TheVariants.{Offer, Write}

-- The carrier after one step more.
pub after_push : (c : Meaning) (ss : List Step) (x : Step) → after_steps c (ss ++ x ∷ []) ≡ after_steps (after_steps c ss) (x ∷ [])
after_push c [] x = refl
after_push c (Write l w v ∷ ss) x = after_push (written c l w v) ss x
after_push c (Offer k ∷ ss) x = after_push c ss x

module _ (c : Meaning) (ss : List Step) where
  -- A sound copy stays one, and the first stays the first.
  copy_more : (b : List Step) (n : ℕ) (x : Step) → SoundCopy c ss b n → SoundCopy c (ss ++ x ∷ []) b n
  copy_more b n x o = record {
    rest = o.rest ++ x ∷ [];
    there = ap (λ t. t ++ x ∷ []) o.there ∙ append_assoc b (Offer n ∷ o.rest) (x ∷ []);
    sound = o.sound;
  }

  first_more : (b : List Step) (n : ℕ) (x : Step) → FirstCopy c ss b n → FirstCopy c (ss ++ x ∷ []) b n
  first_more b n x o = record { copy = copy_more b n x o.copy; none_before = o.none_before }

  -- A sound copy of the longer list is made by the last step, or was one before.
  copy_less : (b : List Step) (n : ℕ) (x : Step) → SoundCopy c (ss ++ x ∷ []) b n → ((b ≡ ss) × (Offer n ≡ x)) ⊎ SoundCopy c ss b n
  copy_less b n x o =
      elim (cut_end ss b o.rest x (Offer n) o.there) [
        | inl p ↦ inl p
        | inr p ↦ inr (record { rest = p.0; there = p.1; sound = o.sound })
      ]

  none_more : (n : ℕ) (x : Step) → (Offer n ≡ x → SoundLine (after_steps c ss) n → ⊥) → ((b : List Step) → SoundCopy c ss b n → ⊥) →
      (b : List Step) → SoundCopy c (ss ++ x ∷ []) b n → ⊥
  none_more n x last before b o =
      elim (copy_less b n x o) [
        | inl p ↦ last p.1 (subst (λ d. SoundLine (after_steps c d) n) p.0 o.sound)
        | inr p ↦ before b p
      ]

kept_kept : (n : ℕ) (m m' m'' : List ℕ) → Kept n m m' → Kept n m' m'' → Kept n m m''
kept_kept n m m' m'' p q = record { mark = q.mark ∙ p.mark; bytes = λ j h. q.bytes j h ∙ p.bytes j h }

taken_kept : (c : Meaning) (n : ℕ) (m m' : List ℕ) → Taken c n m → Kept n m m' → Taken c n m'
taken_kept c n m m' p q = record { mark = q.mark ∙ p.mark; bytes = λ j h. q.bytes j h ∙ p.bytes j h }

pub ran_none : (c : Meaning) (m : List ℕ) → Ran c [] m m
ran_none c m =
    let same : (n : ℕ) → Kept n m m = λ n. record { mark = refl; bytes = λ j h. refl } in
    record {
      size = refl;
      unfit = λ _. refl;
      held = λ _ n _ _. same n;
      free = λ _ n _ _. inr (λ b o. not_empty b o.rest (Offer n) o.there, same n);
    }

module _ (c : Meaning) (ss : List Step) (m m' : List ℕ) (r : Ran c ss m m') where
  ran_write : (l w v : ℕ) → Ran c (ss ++ Write l w v ∷ []) m m'
  ran_write l w v = record {
    size = r.size;
    unfit = r.unfit;
    held = r.held;
    free = λ s n h z. elim (r.free s n h z) [
      | inl p ↦ inl (p.0, first_more c ss p.0 n (Write l w v) p.1, p.2)
      | inr p ↦ inr (none_more c ss n (Write l w v) (λ e _. cc) p.0, p.1)
    ];
  }

  module _ (k : ℕ) (m'' : List ℕ) (each : length m ≡ 304644 → (n : ℕ) → n ≤ 211 → Line m' (after_steps c ss) k m'' n) where
    offer_held : length m ≡ 304644 → (n : ℕ) → n ≤ 211 → (mark_of m n ≡ 0 → ⊥) → Kept n m m''
    offer_held s n h set_before =
        let p = r.held s n h set_before in
        elim (each s n h) [
          | inl t ↦ absurd (set_before (sym p.mark ∙ t.2))
          | inr t ↦ kept_kept n m m' m'' p t.1
        ]

    offer_free : length m ≡ 304644 → (n : ℕ) → n ≤ 211 → mark_of m n ≡ 0 → Ends c (ss ++ Offer k ∷ []) m m'' n
    offer_free s n h z =
        elim (r.free s n h z) [
          | inl p ↦ elim (each s n h) [
            | inl t ↦ absurd (omega (arith, p.2.mark, t.2))
            | inr t ↦ inl (p.0, first_more c ss p.0 n (Offer k) p.1, taken_kept (after_steps c p.0) n m' m'' p.2 t.1)
          ]
          | inr p ↦ elim (each s n h) [
            | inl t ↦
                let there : ss ++ Offer k ∷ [] ≡ ss ++ Offer n ∷ [] = let same = t.0 in cc in
                inl (ss, record { copy = record { rest = []; there = there; sound = t.1 }; none_before = p.0 }, t.3)
            | inr t ↦
                let last : Offer n ≡ Offer k → SoundLine (after_steps c ss) n → ⊥ = λ e g. let same : n ≡ k = cc in t.0 same (p.1.mark ∙ z) g in
                inr (none_more c ss n (Offer k) last p.0, kept_kept n m m' m'' p.1 t.1)
          ]
        ]

-- The run with one step more.
pub ran_more : (c : Meaning) (ss : List Step) (m m' m'' : List ℕ) (x : Step) (r : Result (Unit {0}) Denial) → Ran c ss m m' →
    r ≡ step_at m' (after_steps c ss) x → Stepped m' (after_steps c ss) x m'' r → Ran c (ss ++ x ∷ []) m m''
ran_more c ss m m' m'' (Write l w v) r ran answer is = subst (λ t. Ran c (ss ++ Write l w v ∷ []) m t) (sym is) (ran_write c ss m m' ran l w v)
ran_more c ss m m' m'' (Offer k) r ran answer is =
    let each : length m ≡ 304644 → (n : ℕ) → n ≤ 211 → Line m' (after_steps c ss) k m'' n = λ s n h.
    line m' (after_steps c ss) k m'' (ran.size ∙ s) n h r answer is in
    record {
      size = offer_size m' ((after_steps c ss).word k) k m'' r is ∙ ran.size;
      unfit = λ ne. offer_unfit m' (after_steps c ss) k m'' r answer is (λ s. ne (sym ran.size ∙ s)) ∙ ran.unfit ne;
      held = offer_held c ss m m' ran k m'' each;
      free = offer_free c ss m m' ran k m'' each;
    }

-- The run of the first i steps of a list, and of one more.
pub run_more : (c : Meaning) (steps : List Step) (i : ℕ) (o : Step) (m m' m'' : List ℕ) (d : Meaning) (r : Result (Unit {0}) Denial) →
    i < length steps → d ≡ after_steps c (take i steps) → Ran c (take i steps) m m' →
    r ≡ step_at m' d (get_or steps i o) → Stepped m' d (get_or steps i o) m'' r → Ran c (take (i + 1) steps) m m''
run_more c steps i o m m' m'' d r h is ran answer stepped =
    let x = get_or steps i o in
    subst (λ ss. Ran c ss m m'') (sym (take_more steps i o h))
    (ran_more c (take i steps) m m' m'' x r ran (answer ∙ ap (λ e. step_at m' e x) is) (subst (λ e. Stepped m' e x m'' r) is stepped))

-- The carrier likewise.
pub after_more : (c : Meaning) (steps : List Step) (i : ℕ) (o : Step) (d e : Meaning) → i < length steps → d ≡ after_steps c (take i steps) →
    e ≡ after_steps d (get_or steps i o ∷ []) → e ≡ after_steps c (take (i + 1) steps)
after_more c steps i o d e h is next =
    let x = get_or steps i o in
    next ∙ ap (λ f. after_steps f (x ∷ [])) is ∙ sym (after_push c (take i steps) x) ∙ ap (after_steps c) (sym (take_more steps i o h))

-- The first i answers are noted in `answers`, where `was` stood.
pub record Noted (c : Meaning) (steps : List Step) (m : List ℕ) (i : ℕ) (was answers : List Answer) : Type 0 where
  pub size : length answers ≡ length was
  pub each : (k : ℕ) → k < i → k < length answers → AnsweredIn c (take k steps) m (get_or steps k (Offer 0)) (get_or answers k (Ok tt))
  pub others : (k : ℕ) → i ≤ k → get_or answers k (Ok tt) ≡ get_or was k (Ok tt)

-- And one more.
pub answers_more : (c : Meaning) (steps : List Step) (i : ℕ) (o : Step) (m m' : List ℕ) (d : Meaning) (r : Answer) (was answers new : List Answer) →
    i < length steps → d ≡ after_steps c (take i steps) → Ran c (take i steps) m m' → r ≡ step_at m' d (get_or steps i o) →
    new ≡ set answers i r → Noted c steps m i was answers → Noted c steps m (i + 1) was new
answers_more c steps i o m m' d r was answers new h is ran answer e noted =
    subst (Noted c steps m (i + 1) was) (sym e) (record {
      size = length-set answers i r ∙ noted.size;
      each = λ k l inside. elim (ℕ_discrete k i) [
        | yes same ↦ subst (λ j. AnsweredIn c (take j steps) m (get_or steps j (Offer 0)) (get_or (set answers i r) j (Ok tt))) (sym same)
            (subst (AnsweredIn c (take i steps) m (get_or steps i (Offer 0))) (sym (get_or-set_same answers i r (Ok tt) (omega (arith, length-set answers i r))))
            (record {
              memory = m';
              ran = ran;
              answer = answer ∙ ap (λ f. step_at m' f (get_or steps i o)) is ∙ ap (step_at m' (after_steps c (take i steps))) (get_or_default steps i o (Offer 0) h);
            }))
        | no ne ↦ subst (AnsweredIn c (take k steps) m (get_or steps k (Offer 0))) (sym (get_or-set_other answers i k r (Ok tt) ne))
            (noted.each k (omega arith) (omega (arith, length-set answers i r)))
      ];
      others = λ k l. get_or-set_other answers i k r (Ok tt) (λ z. omega arith) ∙ noted.others k (omega arith);
    })
