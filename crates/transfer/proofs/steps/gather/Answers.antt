use Rattle.std.proofs.Common.{ℕ, List, sym, subst, subst₂}
use Rattle.transfer.specs.Answers.{AnswersIn}
use Rattle.transfer.specs.Runs.{Ran}
use Rattle.transfer.proofs.Answering.{answers_all}
use Rattle.transfer.proofs.Gathers.{gathered}
use Rattle.transfer.proofs.steps.gather.Goals as goal

pub returns-clause-memory : goal.returns-clause-memory
returns-clause-memory g c =
    let R : List ℕ → List ℕ → Type 0 = λ a b. Ran (g.C.Carrier.meaning c.args.carrier.now) c.args.steps.now a b in
    gathered _ _ _ _ (subst₂ R c.begin-receiver.ensures.bytes (sym c.close.ensures.bytes) c.run.ensures.memory)

pub returns-clause-answers : goal.returns-clause-answers
returns-clause-answers g c =
    answers_all _ _ _ _ _ (subst (λ b. AnswersIn (g.C.Carrier.meaning c.args.carrier.now) c.args.steps.now b c.args.answers.now c.run.new.answers)
    c.begin-receiver.ensures.bytes c.run.ensures.answers)
