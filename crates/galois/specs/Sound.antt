-- The two fields pass the test.
use Rattle.std.specs.Prelude.{ℕ, slice_index, refl}
use Rattle.std.proofs.Common.{lit<}
use Rattle.galois.specs.Binary.{shift, product, shifts}
use Rattle.galois.specs.Galois.{Sound, each, both}
use Rattle.galois.specs.Tables.{logs16, logs256}

abbrev pub log16 : ℕ → ℕ
log16 x = slice_index logs16 x

pub sound16 : Sound 3 19 15 log16
unfolding shift product shifts each both
sound16 = record { size = refl; some = lit< tt; kept = tt; root = tt; logs = tt; small = tt; powers = tt; whole = refl; two = refl }

abbrev pub log256 : ℕ → ℕ
log256 x = slice_index logs256 x

pub sound256 : Sound 7 285 255 log256
unfolding shift product shifts each both
sound256 = record { size = refl; some = lit< tt; kept = tt; root = tt; logs = tt; small = tt; powers = tt; whole = refl; two = refl }
