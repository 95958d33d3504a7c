-- Lines of a stream.
use Rattle.std.proofs.Common.{◌≡◌, ℕ, ◌+◌, ◌/◌, ◌%◌, ◌^◌, ◌<◌, min, List, [], ◌++◌, length, sym, refl, ap, ◌∙◌, subst, append_assoc, append-nil, add-zero, mod-lt, mod-eq_of_lt, arith, lit<, length-append}
use native.Mathlib.Decide.{dec_lt}
use native.Mathlib.Nat.{mod-add-mod}
use Rattle.std.proofs.lemmas.List.{nil_from_length}
use Rattle.codewords.specs.Verdicts.{Tells, Lines, none, last, block, LinesJoin, next_ordinal}

-- no bytes have no lines
lines_none : (o : ℕ) (b t : List ℕ) → length b ≡ 0 → Lines o b t → t ≡ []
lines_none o b t size (none p) = refl
lines_none o b t size (last p d line some few tells) = absurd (omega arith)
lines_none o b t size (block p d rest line text whole tells lines) = absurd (omega (arith, length-append d rest))

-- one chunk of at most 224 bytes, and then the lines of what is left
pub lines_more : (o : ℕ) (b rest line text : List ℕ) → 0 < length (b ++ rest) → length b ≡ min 224 (length (b ++ rest)) → Tells o b line →
    Lines (next_ordinal o) rest text → Lines o (b ++ rest) (line ++ text)
lines_more o b rest line text some cut tells lines =
    elim (dec_lt (length b) 224) [
      | yes few ↦
          let none : length rest ≡ 0 = omega (arith, length-append b rest, cut) in
          rw (nil_from_length rest none, lines_none (next_ordinal o) rest text none lines, append-nil b, append-nil line)
          (last o b line (omega (arith, length-append b rest, cut)) few tells)
      | no many ↦ block o b rest line text (omega (arith, cut)) tells lines
    ]

pub lines_join : LinesJoin
lines_join o small b c t u whole (none p) more =
    let same : (o + 0) % 2 ^ 64 ≡ o = ap (λ k. k % 2 ^ 64) (add-zero o) ∙ mod-eq_of_lt small in
    subst (λ p. Lines p c u) same more
lines_join o small b c t u whole (last p d line some few tells) more =
    let rest : length b % 224 ≡ length b = mod-eq_of_lt few in absurd (omega (arith, rest))
lines_join o small b c t u whole (block p d rest line text size tells lines) more =
    let long : length (d ++ rest) ≡ 224 + length rest = length-append d rest ∙ ap (λ k. k + length rest) size in
    let whole' : length rest % 224 ≡ 0 = omega (arith, long, whole) in
    let ordinal : (o + length (d ++ rest) / 224) % 2 ^ 64 ≡ (next_ordinal o + length rest / 224) % 2 ^ 64 =
    ap (λ k. k % 2 ^ 64) (omega (arith, long)) ∙ sym (mod-add-mod (o + 1) (2 ^ 64) (length rest / 224)) in
    subst (λ x. Lines o x ((line ++ text) ++ u)) (sym (append_assoc d rest c))
    (subst (λ y. Lines o (d ++ (rest ++ c)) y) (sym (append_assoc line text u))
    (block o d (rest ++ c) line (text ++ u) size tells
    (lines_join (next_ordinal o) (mod-lt (o + 1) (lit< tt)) rest c text u whole' lines (subst (λ p. Lines p c u) ordinal more))))
