-- What mending makes of the gathered bytes.
use Rattle.std.proofs.Common.{◌≡◌, ℕ, ◌<◌, List, get_or, take, Ok, Err, Result, sym, refl, ap, ◌∙◌, subst, arith}
use Rattle.codec.specs.Mend.{places}
use Rattle.codec.specs.declared.record.MendRecord.{MendRecord}
use Rattle.codewords.specs.Bytes.{AllNumbers, MendedBytes}
use Rattle.denial.specs.Denials.{denied}
use Rattle.denial.specs.declared.Denial.{Denial}
use Rattle.denial.specs.declared.Reason.TheVariants.{Lost}
use Rattle.denial.specs.declared.Layer.TheVariants.{Code}
use Rattle.galois.specs.Fields.{gf256}
use Rattle.layout.specs.Places.{stream_place}
use Rattle.receiver.specs.Asks.{Given}
use Rattle.receiver.specs.Memory.{gathered}
use Rattle.receiver.proofs.Gathers.{gathered_byte, gathered_length}

-- Every byte of the memory is one of the field's 256 numbers, and so is every gathered byte.
gathered_numbers : (m : List ℕ) (p c : ℕ) → ((k : ℕ) → get_or m k 0 < 256) → AllNumbers gf256 (gathered m p c)
gathered_numbers m p c bytes i h =
    subst (λ b. b < 256) (sym (gathered_byte m p c i (omega (arith, gathered_length m p c)))) (bytes (stream_place p c i))

module _ (m : List ℕ) (p c : ℕ) (before : List ℕ) (fits : (k : ℕ) → get_or m k 0 < 256) (block : List ℕ) (q : Result MendRecord Denial)
    (mended : MendedBytes gf256 224 (gathered m p c) block q) where
  abbrev all : AllNumbers gf256 (gathered m p c)
  all = gathered_numbers m p c fits

  pub given : (after : List ℕ) (k : MendRecord) → q ≡ Ok k → after ≡ take 219 block → Given (gathered m p c) p c before after (Ok k)
  given after k ok is = record {
    lost = λ none. absurd (none block (mended.sound k ok).1);
    gives = λ v near. let u = mended.mends all v near in let same : k ≡ u.1.0 = cc in (is ∙ ap (take 219) u.0, (k, refl, ap places same ∙ u.1.2));
    sound = λ j e. let same : j ≡ k = cc in (block, (mended.sound k ok).1, λ u near. sym (mended.mends all u near).0);
  }

  pub refused : (d : Denial) (r : Result MendRecord Denial) → q ≡ Err d → r ≡ Err (denied d.reason d.layer p c) → Given (gathered m p c) p c before before r
  refused d r err at = record {
    lost = λ none.
        let known : d ≡ denied Lost Code 0 0 = let e = (mended.lost (gathered_length m p c) all none).1 in cc in
        (refl, at ∙ ap (λ x. Err (denied x.reason x.layer p c)) known);
    gives = λ v near. let e = (mended.mends all v near).1.1 in cc;
    sound = λ j is. cc;
  }
