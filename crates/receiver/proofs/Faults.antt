-- A line is refused for its words exactly where they are not sound.
use Rattle.std.proofs.Common.{◌≡◌, ℕ, Bool, not, leb, Some, None, Option, refl, arith}
use Rattle.std.proofs.lemmas.Bool.Decides.{nat_tests}
use Rattle.layout.proofs.Firsts.{first_found, none_below}
use Rattle.layout.specs.First.{first_below}
use Rattle.layout.specs.Mapped.{mark_word}
use Rattle.receiver.specs.Offers.{fault_by, FaultsFound, head_fault, Sound}

abbrev too_wide : (ℕ → ℕ) → ℕ → Bool
too_wide word w = not (leb (word w) 1023)

head_sound : (type mark n : ℕ) → head_fault type mark n ≡ None → (type ≡ 0x248) × (mark ≡ mark_word n)
head_sound type mark n e = (grind (arith, nat_tests), grind (arith, nat_tests))

sound_by : (o : Option ℕ) (word : ℕ → ℕ) (n : ℕ) → first_below (too_wide word) 1440 ≡ o → fault_by o word n ≡ None → Sound word n
sound_by None word n none e =
    let head = head_sound (word 0) (word 1) n e in
    record {
      narrow = λ w h. let no-wide = (first_found.none (too_wide word) 1440).0 none w h in grind (arith, nat_tests);
      type_word = head.0;
      mark = head.1;
    }
sound_by (Some w) word n none e = cc

pub faults_found : FaultsFound
faults_found = λ word n. (
  sound_by (first_below (too_wide word) 1440) word n refl,
  λ s.
      let none = none_below (too_wide word) 1440 (λ w h. let low = s.narrow w h in grind (arith, nat_tests)) in
      let type = s.type_word in
      let mark = s.mark in
      rw none (grind (arith, nat_tests)),
)
