use Rattle.std.proofs.Common.{◌≡◌, ℕ, [], ◌∷◌, ◌++◌, decimal, refl, append_assoc, ◌∙◌}
use Rattle.std.proofs.lemmas.Result.{IfOk-weaker}
use Rattle.codewords.specs.Verdicts.{verdict_text, verdict_words}
use Rattle.codewords.specs.declared.verdict.Verdict.{Verdict}
use Rattle.codewords.specs.declared.verdict.Verdict.TheVariants.{Clean, MendedOne, MendedTwo, Lost, Short}
use Rattle.codewords.proofs.verdict.verdict_line.Goals as goal

words_end : (o : ℕ) (v : Verdict) → decimal o ++ (32 ∷ (verdict_words v ++ (10 ∷ []))) ≡ verdict_text o v
words_end o Clean = refl
words_end o (MendedOne p) = refl
words_end o (MendedTwo p q) = simp append_assoc
words_end o Lost = refl
words_end o (Short n) = refl

pub returns : goal.returns
returns c =
    IfOk-weaker c.format.result _ _
    (λ s e. record { verdict = c.judge-verdict.result; judged = c.judge-verdict.ensures; text = e ∙ words_end c.args.ordinal c.judge-verdict.result }) c.format.ensures.ok
