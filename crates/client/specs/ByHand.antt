-- What a client that makes the calls himself may conclude.
use Rattle.std.specs.Prelude.{◌≡◌, ℕ, ◌≤◌, List, length, Ok, Result}
use Rattle.carriers.specs.Meaning.{Meaning}
use Rattle.codec.specs.declared.record.MendRecord.{MendRecord}
use Rattle.denial.specs.declared.Denial.{Denial}
use Rattle.layout.specs.Mapped.{Blocks}
use Rattle.sender.specs.Mapping.{CodedBlocks, map_at, with_field}
use Rattle.sender.specs.Memory.{block_at}
use Rattle.transfer.specs.Promise.{Promise}
use Rattle.transfer.specs.declared.steps.Step.{Step}

-- The field was mapped, the receiver's memory and the answer place have their lengths, and there is such a block: then what asking
-- answered, and left in the answer place, is as promised after these steps.
abbrev pub Promised : List ℕ → Meaning → List Step → List ℕ → ℕ → ℕ → List ℕ → List ℕ → Result MendRecord Denial → Type 0
Promised loaded before steps memory p c place after r =
    map_at loaded before ≡ Ok tt → length memory ≡ 304644 → p ≤ 677 → c ≤ 1 → length place ≡ 219 →
    (coded : Blocks) × CodedBlocks loaded coded × Promise (with_field coded before) steps p c (block_at loaded p c) (coded p c) after r
