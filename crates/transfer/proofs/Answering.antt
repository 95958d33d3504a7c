-- What the steps of a run from its beginning are answered.
use Rattle.std.proofs.Common.{◌≡◌, ℕ, List, length, sym, ◌∙◌, inl, inr, arith}
use Rattle.std.proofs.lemmas.Bool.Decides.{nat_tests}
use Rattle.carriers.specs.Meaning.{Meaning}
use Rattle.receiver.specs.Memory.{begun}
use Rattle.transfer.proofs.Gathers.{gathered}
use Rattle.transfer.specs.Answers.{Answer, Answered, AnsweredIn, Answers, AnswersIn}
use Rattle.transfer.specs.Runs.{mark_of}
use Rattle.transfer.specs.declared.steps.Step.{Step}
use Rattle.transfer.specs.declared.steps.Step.TheVariants.{Offer, Write}

answered : (c : Meaning) (before : List Step) (m : List ℕ) (x : Step) (r : Answer) → AnsweredIn c before (begun m) x r → Answered c before (length m) x r
answered c before m (Write line word value) r a = a.answer
answered c before m (Offer n) r a =
    let all = gathered c before m a.memory a.ran in
    let size = all.size in (
      (λ ne. let no : length a.memory ≡ 304644 → ⊥ = λ e. ne (sym size ∙ e) in a.answer ∙ grind (arith, nat_tests)),
      (λ fit high. a.answer ∙ grind (arith, nat_tests)),
      (λ fit low sound. let one = (all.lines fit n low).marked.1 sound in a.answer ∙ grind (arith, nat_tests)),
      (λ fit low none.
          let line = all.lines fit n low in
          let free : mark_of a.memory n ≡ 0 = elim line.binary [ inl z ↦ z | inr o ↦ absurd (none (line.marked.0 o)) ] in a.answer ∙ grind (arith, nat_tests)),
    )

pub answers_all : (c : Meaning) (steps : List Step) (m : List ℕ) (was now : List Answer) → AnswersIn c steps (begun m) was now → Answers c steps (length m) was now
answers_all c steps m was now a = record {
  room = a.size;
  each = λ i h l. answered c _ m _ _ (a.each i h l);
  others = a.others;
}
