-- From the contracts of the single calls to the promise.
use Rattle.std.proofs.Common.{◌≡◌, ℕ, List, [], ◌∷◌, refl, ap, ◌∙◌, subst}
use Rattle.carriers.specs.Meaning.{Meaning, write_at, written}
use Rattle.receiver.specs.Memory.{begun}
use Rattle.receiver.specs.Offers.{offer_at, Offered}
use Rattle.transfer.proofs.Gathers.{gathered}
use Rattle.transfer.proofs.Running.{ran_more, ran_none}
use Rattle.transfer.specs.Answers.{Answer}
use Rattle.transfer.specs.Runs.{Gathered, Ran}
use Rattle.transfer.specs.declared.steps.Step.TheVariants.{Offer, Write}

-- One word written and two lines offered, from the beginning on.
pub three_steps : (mapped after : Meaning) (l w v a b : ℕ) (m m₀ m₁ m₂ : List ℕ) (r s : Answer) → after ≡ written mapped l w v → m₀ ≡ begun m →
    r ≡ offer_at m₀ after a → Offered m₀ (after.word a) a m₁ r → s ≡ offer_at m₁ after b → Offered m₁ (after.word b) b m₂ s →
    Gathered mapped (Write l w v ∷ Offer a ∷ Offer b ∷ []) m m₂
three_steps mapped after l w v a b m m₀ m₁ m₂ r s is begins r-is taken s-is again =
    let wrote : Ran mapped (Write l w v ∷ []) m₀ m₀ = ran_more mapped [] m₀ m₀ m₀ (Write l w v) (write_at mapped l w v) (ran_none mapped m₀) refl refl in
    let once : Ran mapped (Write l w v ∷ Offer a ∷ []) m₀ m₁ =
    ran_more mapped (Write l w v ∷ []) m₀ m₀ m₁ (Offer a) r wrote (r-is ∙ ap (λ x. offer_at m₀ x a) is) (subst (λ x. Offered m₀ (x.word a) a m₁ r) is taken) in
    let twice : Ran mapped (Write l w v ∷ Offer a ∷ Offer b ∷ []) m₀ m₂ =
    ran_more mapped (Write l w v ∷ Offer a ∷ []) m₀ m₁ m₂ (Offer b) s once (s-is ∙ ap (λ x. offer_at m₁ x b) is) (subst (λ x. Offered m₁ (x.word b) b m₂ s) is again) in
    gathered mapped _ m m₂ (subst (λ x. Ran mapped (Write l w v ∷ Offer a ∷ Offer b ∷ []) x m₂) begins twice)
