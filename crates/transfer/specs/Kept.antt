-- The promise for every block of a field.
use Rattle.std.specs.Prelude.{◌≡◌, ℕ, ◌≤◌, List, length, Ok, Err, Result}
use Rattle.carriers.specs.Meaning.{Meaning}
use Rattle.codec.specs.declared.record.MendRecord.{MendRecord}
use Rattle.denial.specs.declared.Denial.{Denial}
use Rattle.layout.specs.Mapped.{Blocks}
use Rattle.receiver.specs.Asks.{Asked}
use Rattle.receiver.specs.Memory.{begun}
use Rattle.sender.specs.Mapping.{CodedBlocks, with_field}
use Rattle.sender.specs.Memory.{block_at}
use Rattle.transfer.specs.Answers.{Answer, Answers}
use Rattle.transfer.specs.Promise.{Promise}
use Rattle.transfer.specs.Runs.{Gathered}
use Rattle.transfer.specs.Steps.{after_steps}
use Rattle.transfer.specs.declared.steps.Step.{Step}

-- A closed receiver of memory m keeps the promise for the blocks of a sender's memory that were mapped as these coded blocks: whatever
-- asking for one answers, and leaves in an answer place of 219 bytes, is as promised.
abbrev pub KeptPromise : Meaning → List ℕ → Blocks → List Step → List ℕ → Type 0
KeptPromise mapped loaded coded steps m =
    (p c : ℕ) → p ≤ 677 → c ≤ 1 → (before after : List ℕ) (r : Result MendRecord Denial) → length before ≡ 219 →
    Asked m p c before after r → Promise mapped steps p c (block_at loaded p c) (coded p c) after r

-- A transfer of the blocks of a sender's memory onto a carrier that meant `before`, with the steps that came after, into a receiver's
-- memory m: the carrier now means `after`, the memory is m', and the answers to the steps are `now` where `was` stood.
pub record Done (loaded : List ℕ) (before after : Meaning) (steps : List Step) (m m' : List ℕ) (was now : List Answer) : Type 0 where
  pub coded : Blocks
  pub blocks : CodedBlocks loaded coded
  pub carrier : after ≡ after_steps (with_field coded before) steps
  pub gathered : Gathered (with_field coded before) steps m m'
  pub answers : Answers (with_field coded before) steps (length m) was now
  pub promise : length m ≡ 304644 → KeptPromise (with_field coded before) loaded coded steps m'

-- What a transfer did whose mapping was answered r. Where mapping was refused, no step was carried out.
abbrev pub Transferred : List ℕ → Meaning → Meaning → List Step → List ℕ → List ℕ → List Answer → List Answer → Answer → Type 0
Transferred loaded before after steps m m' was now (Ok _) = Done loaded before after steps m m' was now
Transferred loaded before after steps m m' was now (Err _) = (after ≡ before) × (m' ≡ begun m) × (now ≡ was)
