-- Coding data: four check bytes written after it.
use Rattle.std.proofs.Common.{◌≡◌, ℕ, suc, ◌+◌, ◌<◌, List, [], ◌∷◌, ◌++◌, map, length, get_or, take, drop, Ok, Result, sym, refl, ap, ◌∙◌, subst, ap₂, mod-eq_of_lt, arith, length-append, take-append-drop, take_at}
use native.Mathlib.Decide.{dec_lt}
use Rattle.std.proofs.lemmas.List.{length-map, map-append, take-map, get_or_append_left, get_or_push}
use Rattle.galois.specs.Field.{Arithmetic, Laws}
use Rattle.galois.specs.Fields.{gf16, gf256, of_byte}
use Rattle.galois.specs.declared.cubic.Cubic.{Cubic}
use Rattle.galois.specs.Elements.{laws256}
use Rattle.galois.specs.Remainders.{row256, left256}
use Rattle.reed_solomon.specs.Code.{Coded}
use Rattle.codec.specs.Check.{symbols, Checks}
use Rattle.codec.proofs.Dividing.{some_checks}
use Rattle.denial.specs.Denials.{denied}
use Rattle.denial.specs.declared.Denial.{Denial}
use Rattle.denial.specs.declared.Reason.TheVariants.{Length}
use Rattle.denial.specs.declared.Layer.TheVariants.{Code}
use Rattle.codewords.specs.Bytes.{AllNumbers, CodedBytes, CodedFrom, MadeBytes, Refused}
use Rattle.codewords.specs.Blocks.{OneBlock}
use Rattle.codewords.specs.Labels.{LabelMade, LabelOf}
use Rattle.codewords.proofs.Mends.{all_numbers}
use Rattle.codewords.proofs.Numbers.{same_numbers}

module _ {F : Type 0} (K : Arithmetic F) where
  module _ (laws : Laws K) (d : List ℕ) (w : List F) (c : Cubic F) (e : map K.number w ≡ d) (checks : Checks K w c) where
    abbrev whole : List ℕ
    whole = d ++ map K.number (symbols c)

    size : length w ≡ length d
    size = sym (length-map w K.number) ∙ ap length e

    spelt : whole ≡ map K.number (w ++ symbols c)
    spelt = ap (λ x. x ++ map K.number (symbols c)) (sym e) ∙ sym (map-append K.number w (symbols c))

    -- the data, and the check symbols of the word that it is the numbers of, are coded
    pub coded_from : CodedFrom K (length d + 4) d whole
    coded_from = record {
      begins = take_at d (map K.number (symbols c)) (length d) refl;
      coded = record { word = w ++ symbols c; numbers = sym spelt; coded = subst (λ n. Coded K (n + 4) (w ++ symbols c)) size checks.coded };
    }

    -- and nothing else that begins with the data is
    pub only_from : (v : List ℕ) → CodedFrom K (length d + 4) d v → v ≡ whole
    only_from v from =
        let n = length d in
        let u = from.coded.word in
        let front : take n u ≡ w = same_numbers K laws (take n u) w (sym (take-map K.number n u) ∙ ap (take n) from.coded.numbers ∙ from.begins ∙ sym e) in
        let split : u ≡ w ++ drop n u = sym (take-append-drop n u) ∙ ap (λ x. x ++ drop n u) front in
        let coded : Coded K (length w + 4) (w ++ drop n u) = subst (λ m. Coded K (m + 4) (w ++ drop n u)) (sym size) (subst (λ x. Coded K (n + 4) x) split from.coded.coded) in
        sym from.coded.numbers ∙ ap (map K.number) (split ∙ ap (λ x. w ++ x) (checks.only (drop n u) coded)) ∙ sym spelt

    pub made : (before after : List ℕ) → after ≡ whole → MadeBytes K d before after (Ok tt)
    made before after is = record {
      too_wide = λ i first. absurd (omega (arith, subst (λ b. AllNumbers K b) e (all_numbers K laws w) i first.inside, first.wide));
      made = λ _. (refl, subst (λ v. CodedFrom K (length d + 4) d v) (sym is) coded_from, λ v from. only_from v from ∙ sym is);
    }

-- a basic block and one byte more are 220 bytes of data
pub data_size : (basic : List ℕ) (b : ℕ) → length basic ≡ 219 → length (basic ++ (b ∷ [])) ≡ 220
data_size basic b lb = omega (arith, length-append basic (b ∷ []))

data_numbers : (basic : List ℕ) → ((i : ℕ) → i < length basic → get_or basic i 0 < 256) → AllNumbers gf256 (basic ++ (0 ∷ []))
data_numbers basic bytes i h =
    elim (dec_lt i (length basic)) [
      | yes inside ↦ omega (arith, get_or_append_left basic (0 ∷ []) 0 i inside, bytes i inside)
      | no past ↦ omega (arith, length-append basic (0 ∷ []), get_or_push basic 0 0 i (omega (arith, length-append basic (0 ∷ []))))
    ]

pub label_made : (digits before after : List ℕ) (r : Result (Unit {0}) Denial) →
    (¬ (length digits ≡ 11) → Refused before after r (denied Length Code (length digits) 0)) →
    (length digits ≡ 11 → ¬ (length before ≡ length digits + 4) → Refused before after r (denied Length Code (length before) 0)) →
    (length digits ≡ 11 → length before ≡ length digits + 4 → MadeBytes gf16 digits before after r) → LabelMade digits before after r
label_made digits before after r wrong place m = record {
  wrong_digits = wrong;
  wrong_place = λ ld ne. place ld (λ e. ne (omega (arith, ld, e)));
  too_wide = λ ld lp. (m ld (omega (arith, ld, lp))).too_wide;
  made = λ ld lp all.
      let p = (m ld (omega (arith, ld, lp))).made all in
      (p.0, label ld after p.1, λ v l. p.2 v (from ld v l));
}
  where
    label : length digits ≡ 11 → (v : List ℕ) → CodedFrom gf16 (length digits + 4) digits v → LabelOf digits v
    label ld v c = record { begins = subst (λ n. take n v ≡ digits) ld c.begins; coded = subst (λ n. CodedBytes gf16 (n + 4) v) ld c.coded }

    from : length digits ≡ 11 → (v : List ℕ) → LabelOf digits v → CodedFrom gf16 (length digits + 4) digits v
    from ld v l = record { begins = subst (λ n. take n v ≡ digits) (sym ld) l.begins; coded = subst (λ n. CodedBytes gf16 (n + 4) v) (sym ld) l.coded }

-- each byte is the number of the element that it gives
read_back : (b : List ℕ) → AllNumbers gf256 b → map gf256.number (map of_byte b) ≡ b
read_back [] all = refl
read_back (x ∷ b) all = ap₂ ◌∷◌ (mod-eq_of_lt (all 0 (omega arith))) (read_back b (λ i h. all (suc i) (omega arith)))

pub one_block : OneBlock
one_block basic lb bytes =
    let d = basic ++ (0 ∷ []) in
    let w = map of_byte d in
    let e = read_back d (data_numbers basic (λ i h. bytes i (omega arith))) in
    let size = data_size basic 0 lb in
    let s = some_checks gf256 laws256 (λ x. (row256 x.bits, left256 x)) w
    (record { some = omega (arith, length-map d of_byte); fits = omega (arith, length-map d of_byte) }) in
    let v = d ++ map gf256.number (symbols s.0) in
    let whole : length d + 4 ≡ 224 = omega arith in (
      v,
      subst (λ n. CodedFrom gf256 n d v) whole (coded_from gf256 laws256 d w s.0 e s.1),
      λ u from. only_from gf256 laws256 d w s.0 e s.1 u (subst (λ n. CodedFrom gf256 n d u) (sym whole) from),
    )
