-- Asking for the fate of a block.
use Rattle.std.specs.Prelude.{◌≡◌, ℕ, List, length, Result}
use Rattle.codec.specs.declared.record.MendRecord.{MendRecord}
use Rattle.denial.specs.declared.Denial.{Denial}
use Rattle.receiver.specs.Asks.{Asked}
use Rattle.rehearse.specs.Report.{fate_of}
use Rattle.rehearse.specs.declared.report.Fate.{Fate}

-- The fate is that of what a closed receiver of memory m answers, asked with a place of 219 bytes.
pub record Told (m : List ℕ) (packet channel : ℕ) (r : Result Fate Denial) : Type 0 where
  pub before : List ℕ
  pub after : List ℕ
  pub answer : Result MendRecord Denial
  pub place : length before ≡ 219
  pub asked : Asked m packet channel before after answer
  pub fate : r ≡ fate_of answer
