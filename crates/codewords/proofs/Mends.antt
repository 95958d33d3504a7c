-- From mending symbols to mending bytes.
use Rattle.std.proofs.Common.{◌≡◌, ℕ, zero, suc, ◌<◌, ◌≤◌, ◌⊎◌, add-one, List, map, length, get_or, Some, None, Ok, Err, Option, Result, sym, refl, ap, below_more, ◌∙◌, subst, inl, inr, arith}
use Rattle.std.proofs.lemmas.Grind.{common_steps}
use native.Mathlib.Decide.{ℕ_discrete, dec_lt}
use lib.Seq.{take-length}
use Rattle.std.proofs.lemmas.List.{length-map, take_all}
use Rattle.galois.specs.Field.{Arithmetic, Laws}
use Rattle.reed_solomon.specs.Code.{Coded}
use Rattle.codec.specs.Mend.{places, WithinTwo, Mended}
use Rattle.codec.specs.declared.record.MendRecord.{MendRecord}
use Rattle.codec.proofs.Answering.{same_places}
use Rattle.denial.specs.Denials.{denied}
use Rattle.denial.specs.declared.Denial.{Denial}
use Rattle.denial.specs.declared.Reason.TheVariants.{Lost}
use Rattle.denial.specs.declared.Layer.TheVariants.{Code}
use Rattle.codewords.specs.Bytes.{WithinTwoBytes, AllNumbers, FirstWide, MendedBytes, MendedBytesOneWay, differing_bytes}
use Rattle.codewords.proofs.Numbers.{differing_numbers, front_below}

none_some : (m : MendRecord) → ◌≡◌ {A = Option MendRecord} None (Some m) → ◌≡◌ {A = ℕ} 0 1
none_some m e = cc

pub not_both : {T E : Type 0} (r : Result T E) (x : T) (d : E) → r ≡ Ok x → r ≡ Err d → ⊥
not_both r x d p q = let z : ◌≡◌ {A = ℕ} 0 1 = cc in omega arith

module _ {F : Type 0} (K : Arithmetic F) where
  -- there is one first
  pub first_once : (b : List ℕ) (i j : ℕ) → FirstWide K b i → FirstWide K b j → i ≡ j
  first_once b i j p q =
      grind (arith, common_steps)

  -- either some byte is the first that is no number, or none is
  wide_below : (b : List ℕ) (k : ℕ) → k ≤ length b → ((i : ℕ) × FirstWide K b i) ⊎ ((j : ℕ) → j < k → get_or b j 0 < K.size)
  wide_below b zero h = inr (λ j l. absurd (omega arith))
  wide_below b (suc k) h =
      elim (wide_below b k (omega arith)) [
        | inl found ↦ inl found
        | inr before ↦ elim (dec_lt (get_or b k 0) K.size) [
          | yes below ↦ inr (let next = below_more (λ j. get_or b j 0 < K.size) k before below in rw add-one at next)
          | no wide ↦ inl (k, record { inside = omega arith; wide = omega arith; first = before })
        ]
      ]

  pub some_wide : (b : List ℕ) → ((i : ℕ) × FirstWide K b i) ⊎ AllNumbers K b
  some_wide b = wide_below b (length b) (omega arith)

  abbrev numbers : List F → List ℕ
  numbers w = map K.number w

  module _ (laws : Laws K) (w : List F) where
    pub all_numbers : AllNumbers K (numbers w)
    all_numbers k h =
        front_below K laws w (numbers w) (length w) (omega arith)
        (ap numbers (take-length w) ∙ sym (take_all (length w) (numbers w) (omega (arith, length-map w K.number)))) k
        (omega (arith, length-map w K.number))

    to_bytes : (u : List F) → WithinTwo K w u → WithinTwoBytes K (length (numbers w)) (numbers w) (numbers u)
    to_bytes u near = record {
      size = refl;
      coded = record { word = u; numbers = refl; coded = subst (λ n. Coded K n u) (sym (length-map w K.number)) near.coded };
      close = subst (λ l. length l ≤ 2) (sym (differing_numbers K.number 0 u w)) near.close;
    }

    module _ (long : 5 ≤ length w) (short : length w ≤ K.order) where
      of_bytes : (v : List ℕ) (near : WithinTwoBytes K (length (numbers w)) (numbers w) v) → WithinTwo K w near.coded.word
      of_bytes v near = record {
        long = long;
        short = short;
        coded = subst (λ n. Coded K n near.coded.word) (length-map w K.number) near.coded.coded;
        close = subst (λ l. length l ≤ 2) (differing_numbers K.number 0 near.coded.word w)
            (subst (λ x. length (differing_bytes x (numbers w)) ≤ 2) (sym near.coded.numbers) near.close);
      }

      pub given : (w' : List F) (m : MendRecord) → Mended K w w' (Some m) → MendedBytes K (length (numbers w)) (numbers w) (numbers w') (Ok m)
      given w' m mended = record {
        wrong_length = λ ne. absurd (ne refl);
        too_wide = λ _ i first. absurd (omega (arith, all_numbers i first.inside, first.wide));
        lost = λ _ _ none. absurd (none (numbers w') (to_bytes w' (mended.sound m refl)));
        mends = λ _ v near.
            let u = near.coded.word in
            let r = mended.mends u (of_bytes v near) in
            let o = r.1 in
            let same : m ≡ o.0 = some_same m o.0 o.1 in (
              ap numbers r.0 ∙ near.coded.numbers,
              (m, refl, ap places same ∙ o.2 ∙ sym (differing_numbers K.number 0 u w) ∙ ap (λ x. differing_bytes x (numbers w)) near.coded.numbers),
            );
        sound = λ _ _. (all_numbers, to_bytes w' (mended.sound m refl));
      }
        where
          some_same : (m n : MendRecord) → Some m ≡ Some n → m ≡ n
          some_same m n e = cc

      pub lost : (w' : List F) → Mended K w w' None → MendedBytes K (length (numbers w)) (numbers w) (numbers w) (Err (denied Lost Code 0 0))
      lost w' mended = record {
        wrong_length = λ ne. absurd (ne refl);
        too_wide = λ _ i first. absurd (omega (arith, all_numbers i first.inside, first.wide));
        lost = λ _ _ none. (refl, refl);
        mends = λ _ v near.
            let o = (mended.mends near.coded.word (of_bytes v near)).1 in
            let z = none_some o.0 o.1 in absurd (omega arith);
        sound = λ m e. absurd (not_both _ m _ e refl);
      }

by_answer : {F : Type 0} (K : Arithmetic F) (n : ℕ) (b u v : List ℕ) (r s : Result MendRecord Denial) →
    MendedBytes K n b u r → MendedBytes K n b v s → length b ≡ n → AllNumbers K b → (u ≡ v) × (r ≡ s)
by_answer K n b u v (Ok m) s p q e all =
    let near = (p.sound m refl).1 in
    let x = p.mends all u near in
    let y = q.mends all u near in
    (sym y.0, x.1.1 ∙ ap Ok (same_places x.1.0 y.1.0 (x.1.2 ∙ sym y.1.2)) ∙ sym y.1.1)
by_answer K n b u v (Err d) s p q e all = grind (arith, common_steps)

pub mended_bytes_one_way : {F : Type 0} → MendedBytesOneWay F
mended_bytes_one_way K n b u v r s p q =
    elim (ℕ_discrete (length b) n) [
      | no ne ↦ let x = p.wrong_length ne in let y = q.wrong_length ne in (x.0 ∙ sym y.0, x.1 ∙ sym y.1)
      | yes e ↦ elim (some_wide K b) [
        | inl f ↦ let x = p.too_wide e f.0 f.1 in let y = q.too_wide e f.0 f.1 in (x.0 ∙ sym y.0, x.1 ∙ sym y.1)
        | inr all ↦ by_answer K n b u v r s p q e all
      ]
    ]
