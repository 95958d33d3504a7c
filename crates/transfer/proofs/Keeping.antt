-- From what a run leaves, line by line, to what is promised of a block.
use Rattle.std.proofs.Common.{◌≡◌, ℕ, ◌+◌, ◌*◌, ◌%◌, ◌<◌, ◌≤◌, Bool, false, not, ◌&&◌, eqb, ◌⊎◌, ◌↔◌, List, [], ◌∷◌, length, get_or, take, Some, None, Ok, Err, Result, sym, refl, ap, ◌∙◌, subst, inl, inr, arith}
use Rattle.std.proofs.lemmas.List.{ext_get_or}
use Rattle.std.proofs.lemmas.Bool.{cases_eq, eq-eqb, le-leb, ne_eqb}
use Rattle.std.proofs.lemmas.Bool.Decides.{nat_tests}
use Rattle.carriers.specs.Meaning.{Meaning}
use Rattle.codec.specs.Mend.{places}
use Rattle.codec.specs.declared.record.MendRecord.{MendRecord}
use Rattle.codewords.specs.Bytes.{CodedBytes, differing_bytes, WithinTwoBytes}
use Rattle.denial.specs.Denials.{denied}
use Rattle.denial.specs.declared.Denial.{Denial}
use Rattle.denial.specs.declared.Reason.TheVariants.{Lost, Missing}
use Rattle.denial.specs.declared.Layer.TheVariants.{Code, Field}
use Rattle.galois.specs.Fields.{gf256}
use Rattle.layout.specs.Places.{byte_line, stream_place, word_of}
use Rattle.layout.specs.Words.{received_byte}
use Rattle.receiver.proofs.Gathers.{gathered_byte, gathered_length}
use Rattle.receiver.specs.Asks.{ask_refusal, Asked, by_missing, Given, missing_line}
use Rattle.receiver.specs.Memory.{gathered}
use Rattle.transfer.proofs.Counting.{bit, count_same, count_sum, differs, distance_count}
use Rattle.transfer.proofs.Worsts.{worst}
use Rattle.transfer.specs.Promise.{altered_on, copied_byte, count, Crossed, crossed_lines, GatheredBlock, is_altered, IsMissing, more, none, Promise, Worst, WorstSum}
use Rattle.transfer.specs.Runs.{Gathered, GatheredLine, mark_of}
use Rattle.transfer.specs.Steps.{FirstCopy, OfferedSound}
use Rattle.transfer.specs.declared.steps.Step.{Step}

-- The lines of a block: each byte is on the line of its first or of its last.
line_low : (p c j : ℕ) → p ≤ 677 → c ≤ 1 → j < 224 → byte_line p c j ≤ 211
line_low p c j hp hc hj = omega arith

two_lines : (p c j : ℕ) → j < 224 → (byte_line p c j ≡ byte_line p c 0) ⊎ (byte_line p c j ≡ byte_line p c 223)
two_lines p c j h =
    elim (cases_eq (byte_line p c j) (byte_line p c 0)) [ inl e ↦ inl e | inr ne ↦ inr (omega arith) ]

eqb_sym : (x y : ℕ) → eqb x y ≡ eqb y x
eqb_sym x y = grind (arith, nat_tests)

-- The mapped field carries the bytes of `sent` at the places of the block.
abbrev pub Carries : Meaning → ℕ → ℕ → List ℕ → Type 0
Carries mapped p c sent = (j : ℕ) → j < 224 → received_byte (mapped.word (byte_line p c j) (word_of (stream_place p c j))) ≡ get_or sent j 0

module _ (mapped : Meaning) (ss : List Step) (p c : ℕ) where
  -- What a sum of worst numbers is made of.
  abbrev Parts : List ℕ → ℕ → Type 0
  Parts [] t = t ≡ 0
  Parts (n ∷ ns) t = (k : ℕ) × (r : ℕ) × Worst mapped ss p c n k × Parts ns r × (t ≡ k + r)

  parts : {ns : List ℕ} {t : ℕ} → WorstSum mapped ss p c ns t → Parts ns t
  parts none = refl
  parts (more {n} {k} {ns} {t} x r) = (k, t, x, parts r, refl)

  -- The number of gathered bytes that differ from what was sent, by lines.
  module _ (sent g : List ℕ) (size : length sent ≡ 224) (carries : Carries mapped p c sent) (G : GatheredBlock mapped ss p c g) where
    abbrev test : (n : ℕ) (b : List Step) → ℕ → Bool
    test n b j = eqb (byte_line p c j) n && is_altered mapped ss p c b j

    same_test : (b : List Step) (j : ℕ) → j < 224 → FirstCopy mapped ss b (byte_line p c j) → is_altered mapped ss p c b j ≡ differs sent g j
    same_test b j h first =
        let x = copied_byte mapped ss p c b j in
        let y = copied_byte mapped ss p c [] j in
        let a : get_or g j 0 ≡ x = G.bytes j h b first in
        let d : y ≡ get_or sent j 0 = carries j h in
        let q : eqb x y ≡ eqb (get_or sent j 0) (get_or g j 0) = eqb_sym x y ∙ ap (λ t. eqb t x) d ∙ ap (λ t. eqb (get_or sent j 0) t) (sym a) in
        ap not q

    on_line : (n : ℕ) (b : List Step) (j : ℕ) → j < 224 → byte_line p c j ≡ n → FirstCopy mapped ss b n → test n b j ≡ differs sent g j
    on_line n b j h is first =
        ap (λ t. t && is_altered mapped ss p c b j) (eq-eqb _ _ is) ∙ same_test b j h (subst (λ i. FirstCopy mapped ss b i) (sym is) first)

    off_line : (n : ℕ) (b : List Step) (j : ℕ) → (byte_line p c j ≡ n → ⊥) → test n b j ≡ false
    off_line n b j ne = ap (λ t. t && is_altered mapped ss p c b j) (ne_eqb _ _ ne)

    distance : length (differing_bytes sent g) ≡ count (differs sent g) 224
    distance = distance_count sent g size G.size

    distance_one : byte_line p c 223 ≡ byte_line p c 0 → (b : List Step) → FirstCopy mapped ss b (byte_line p c 0) →
        length (differing_bytes sent g) ≡ altered_on mapped ss p c (byte_line p c 0) b
    distance_one same b first =
        distance ∙ count_same (differs sent g) (test (byte_line p c 0) b) 224
        (λ j h. let here : byte_line p c j ≡ byte_line p c 0 = elim (two_lines p c j h) [ inl i ↦ i | inr i ↦ i ∙ same ] in
        sym (on_line (byte_line p c 0) b j h here first))

    distance_two : (byte_line p c 223 ≡ byte_line p c 0 → ⊥) → (b d : List Step) → FirstCopy mapped ss b (byte_line p c 0) →
        FirstCopy mapped ss d (byte_line p c 223) →
        length (differing_bytes sent g) ≡ altered_on mapped ss p c (byte_line p c 0) b + altered_on mapped ss p c (byte_line p c 223) d
    distance_two apart b d first last =
        distance ∙ count_sum (differs sent g) (test (byte_line p c 0) b) (test (byte_line p c 223) d) 224
        (λ j h. elim (two_lines p c j h) [
          | inl i ↦
              let x : bit (test (byte_line p c 0) b j) ≡ bit (differs sent g j) = ap bit (on_line (byte_line p c 0) b j h i first) in
              let y : bit (test (byte_line p c 223) d j) ≡ 0 = ap bit (off_line (byte_line p c 223) d j (λ z. apart (sym z ∙ i))) in omega arith
          | inr i ↦
              let x : bit (test (byte_line p c 223) d j) ≡ bit (differs sent g j) = ap bit (on_line (byte_line p c 223) d j h i last) in
              let y : bit (test (byte_line p c 0) b j) ≡ 0 = ap bit (off_line (byte_line p c 0) b j (λ z. apart (sym i ∙ z))) in omega arith
        ])

missing_same : (n k : ℕ) → ◌≡◌ {A = Result MendRecord Denial} (Err (denied Missing Field n 0)) (Err (denied Missing Field k 0)) → n ≡ k
missing_same n k e = let d : denied Missing Field n 0 ≡ denied Missing Field k 0 = cc in ap (λ x. x.place.0) d

module _ (mapped : Meaning) (ss : List Step) (m m' : List ℕ) (size : length m ≡ 304644) (G : Gathered mapped ss m m') where
  line : (n : ℕ) → n ≤ 211 → GatheredLine mapped ss m m' n
  line n h = G.lines size n h

  first_of : (n : ℕ) → n ≤ 211 → OfferedSound mapped ss n → (b : List Step) × FirstCopy mapped ss b n
  first_of n h o = (line n h).has_first o

  module _ (p c : ℕ) (hp : p ≤ 677) (hc : c ≤ 1) where
    low : (j : ℕ) → j < 224 → byte_line p c j ≤ 211
    low j h = line_low p c j hp hc h

    crossed_low : (n : ℕ) → Crossed p c n → n ≤ 211
    crossed_low n x = subst (λ i. i ≤ 211) x.2 (low x.0 x.1)

    crossed_first : Crossed p c (byte_line p c 0)
    crossed_first = (0, omega arith, refl)

    crossed_last : Crossed p c (byte_line p c 223)
    crossed_last = (223, omega arith, refl)

    never : (n : ℕ) → Crossed p c n → mark_of m' n ≡ 0 → OfferedSound mapped ss n → ⊥
    never n x z o = let one = (line n (crossed_low n x)).marked.1 o in omega arith

    -- A line that is not missing is marked.
    there_marked : (IsMissing mapped ss p c → ⊥) → (n : ℕ) → Crossed p c n → mark_of m' n ≡ 1
    there_marked nm n x =
        elim (line n (crossed_low n x)).binary [ inl z ↦ absurd (nm (n, x, never n x z)) | inr o ↦ o ]

    offered : (n : ℕ) → Crossed p c n → mark_of m' n ≡ 1 → OfferedSound mapped ss n
    offered n x o = (line n (crossed_low n x)).marked.0 o

    -- The bytes that the receiver gathered.
    gathered_block : GatheredBlock mapped ss p c (gathered m' p c)
    gathered_block = record {
      size = gathered_length m' p c;
      bytes = λ j h b first.
          let n = byte_line p c j in
          let r = stream_place p c j % 1436 in
          let back : 1436 * n + r ≡ stream_place p c j = omega arith in
          gathered_byte m' p c j h ∙ ap (λ t. get_or m' t 0) (sym back) ∙ (line n (low j h)).first_copy b first r (omega arith);
    }

    has_worst : (IsMissing mapped ss p c → ⊥) → (t : ℕ) × WorstSum mapped ss p c (crossed_lines p c) t
    has_worst nm =
        let a = byte_line p c 0 in
        let z = byte_line p c 223 in
        let x = worst mapped ss p c a (offered a crossed_first (there_marked nm a crossed_first)) in
        let y = worst mapped ss p c z (offered z crossed_last (there_marked nm z crossed_last)) in
        elim (cases_eq z a) [
          | inl i ↦ let e = eq-eqb z a i in rw e (x.0 + 0, more x.1 none)
          | inr ne ↦ let e = ne_eqb z a ne in rw e (x.0 + (y.0 + 0), more x.1 (more y.1 none))
        ]

    -- What was gathered differs from what was sent in no more bytes than the worst copies do.
    near_enough : (sent g : List ℕ) → length sent ≡ 224 → Carries mapped p c sent → GatheredBlock mapped ss p c g →
        (t : ℕ) → WorstSum mapped ss p c (crossed_lines p c) t → length (differing_bytes sent g) ≤ t
    near_enough sent g long carries gg t sum =
        let a = byte_line p c 0 in
        let z = byte_line p c 223 in
        let all : Parts mapped ss p c (crossed_lines p c) t = parts mapped ss p c sum in
        let first-with : (n k : ℕ) → Crossed p c n → Worst mapped ss p c n k →
        (b : List Step) × FirstCopy mapped ss b n × (altered_on mapped ss p c n b ≤ k) = λ n k x w.
        let o = first_of n (crossed_low n x) (w.reached.0, w.reached.1) in (o.0, o.1, w.most o.0 o.1.copy) in
        elim (cases_eq z a) [
          | inl i ↦
              let e = eq-eqb z a i in
              let q : Parts mapped ss p c (a ∷ []) t = rw e at all in
              let u = first-with a q.0 crossed_first q.2 in
              let d = distance_one mapped ss p c sent g long carries gg i u.0 u.1 in omega (arith, d, u.2, q.4)
          | inr ne ↦
              let e = ne_eqb z a ne in
              let q : Parts mapped ss p c (a ∷ z ∷ []) t = rw e at all in
              let u = first-with a q.0 crossed_first q.2 in
              let v = first-with z q.3.0 crossed_last q.3.2 in
              let d = distance_two mapped ss p c sent g long carries gg ne u.0 v.0 u.1 v.1 in omega (arith, d, u.2, v.2, q.4, q.3.4)
        ]

    before_first : (k : ℕ) → Crossed p c k → k < byte_line p c 0 → ⊥
    before_first k x l = let j = x.0 in let i : byte_line p c j ≡ k = x.2 in omega arith

    before_last : mark_of m' (byte_line p c 0) ≡ 1 → (k : ℕ) → Crossed p c k → k < byte_line p c 223 → mark_of m' k ≡ 1
    before_last ma k x l =
        let j = x.0 in
        let i : byte_line p c j ≡ k = x.2 in
        elim (two_lines p c j x.1) [ inl q ↦ subst (λ n. mark_of m' n ≡ 1) (sym q ∙ i) ma | inr q ↦ absurd (omega arith) ]

    -- What asking comes to: a line is told missing, or the gathered bytes are answered for.
    data Told (before after : List ℕ) (r : Result MendRecord Denial) : Type 0 where
      absent : (n : ℕ) → r ≡ Err (denied Missing Field n 0) → Crossed p c n → mark_of m' n ≡ 0 →
          ((k : ℕ) → Crossed p c k → k < n → mark_of m' k ≡ 1) → Told before after r
      all_there : mark_of m' (byte_line p c 0) ≡ 1 → mark_of m' (byte_line p c 223) ≡ 1 → Given (gathered m' p c) p c before after r → Told before after r

    module _ (before after : List ℕ) (r : Result MendRecord Denial) (place : length before ≡ 219) (asked : Asked m' p c before after r) where
      refusal : ask_refusal m' p c before ≡ by_missing (missing_line m' p c)
      refusal =
          let a = eq-eqb (length m') 304644 (G.size ∙ size) in
          let b = le-leb p 677 hp in
          let d = le-leb c 1 hc in
          let e = eq-eqb (length before) 219 place in
          rw (a, b, d, e)

      told : Told before after r
      told =
          let a = byte_line p c 0 in
          let z = byte_line p c 223 in
          elim (line a (low 0 (omega arith))).binary [
            | inl na ↦
                let is : ask_refusal m' p c before ≡ Some (denied Missing Field a 0) = refusal ∙ grind (arith, nat_tests) in
                absent a (asked.refuses _ is).1 crossed_first na (λ k x l. absurd (before_first k x l))
            | inr ma ↦ elim (cases_eq z a) [
              | inl i ↦
                  let is : ask_refusal m' p c before ≡ None = refusal ∙ grind (arith, nat_tests) in
                  all_there ma (subst (λ n. mark_of m' n ≡ 1) (sym i) ma) (asked.answers is)
              | inr ne ↦ elim (line z (low 223 (omega arith))).binary [
                | inl nz ↦
                    let is : ask_refusal m' p c before ≡ Some (denied Missing Field z 0) = refusal ∙ grind (arith, nat_tests) in
                    absent z (asked.refuses _ is).1 crossed_last nz (before_last ma)
                | inr mz ↦
                    let is : ask_refusal m' p c before ≡ None = refusal ∙ grind (arith, nat_tests) in
                    all_there ma mz (asked.answers is)
              ]
            ]
          ]

    all_marked : mark_of m' (byte_line p c 0) ≡ 1 → mark_of m' (byte_line p c 223) ≡ 1 → (n : ℕ) → Crossed p c n → mark_of m' n ≡ 1
    all_marked ma mz n x =
        elim (two_lines p c x.0 x.1) [
          | inl i ↦ subst (λ k. mark_of m' k ≡ 1) (sym i ∙ x.2) ma
          | inr i ↦ subst (λ k. mark_of m' k ≡ 1) (sym i ∙ x.2) mz
        ]

    -- The gathered bytes are those that the receiver has.
    same_block : (IsMissing mapped ss p c → ⊥) → (g : List ℕ) → GatheredBlock mapped ss p c g → g ≡ gathered m' p c
    same_block nm g gg =
        ext_get_or 0 g (gathered m' p c) (gg.size ∙ sym (gathered_length m' p c))
        (λ j l.
        let h : j < 224 = omega (arith, gg.size) in
        let x : Crossed p c (byte_line p c j) = (j, h, refl) in
        let b = first_of (byte_line p c j) (low j h) (offered (byte_line p c j) x (there_marked nm (byte_line p c j) x)) in
        gg.bytes j h b.0 b.1 ∙ sym (gathered_block.bytes j h b.0 b.1))

    module _ (before after : List ℕ) (r : Result MendRecord Denial) where
      no_near : (d : Denial) → r ≡ Err d → Given (gathered m' p c) p c before after r → (v : List ℕ) → WithinTwoBytes gf256 224 (gathered m' p c) v → ⊥
      no_near d e given v near = let o = (given.gives v near).1.1 in cc

      not_missing : Given (gathered m' p c) p c before after r → (n : ℕ) → r ≡ Err (denied Missing Field n 0) → ⊥
      not_missing given n e =
          let lost = (given.lost (no_near _ e given)).1 in
          let d : denied Missing Field n 0 ≡ denied Lost Code p c = cc in
          let reason : Missing ≡ Lost = ap (λ x. x.reason) d in cc

      lost_or_given : Given (gathered m' p c) p c before after r → (q : Result MendRecord Denial) → r ≡ q →
          (r ≡ Err (denied Lost Code p c)) ⊎ ((k : MendRecord) × (r ≡ Ok k))
      lost_or_given given (Ok k) e = inr (k, e)
      lost_or_given given (Err d) e = inl (given.lost (no_near d e given)).1

      which : Told before after r → (n : ℕ) → r ≡ Err (denied Missing Field n 0) → Crossed p c n × (OfferedSound mapped ss n → ⊥)
      which (absent k i x z earlier) n e =
          subst (λ l. Crossed p c l × (OfferedSound mapped ss l → ⊥)) (missing_same k n (sym i ∙ e)) (x, never k x z)
      which (all_there ma mz given) n e = absurd (not_missing given n e)

      first : Told before after r → (n : ℕ) → r ≡ Err (denied Missing Field n 0) → (k : ℕ) → Crossed p c k → k < n → OfferedSound mapped ss k
      first (absent l i x z earlier) n e k y h =
          let same : l ≡ n = missing_same l n (sym i ∙ e) in
          offered k y (earlier k y (omega arith))
      first (all_there ma mz given) n e k y h = absurd (not_missing given n e)

      missing_told : Told before after r → IsMissing mapped ss p c → (n : ℕ) × (r ≡ Err (denied Missing Field n 0))
      missing_told (absent k i x z earlier) t = (k, i)
      missing_told (all_there ma mz given) t = absurd (t.2 (offered t.0 t.1 (all_marked ma mz t.0 t.1)))

      answered : Told before after r → (IsMissing mapped ss p c → ⊥) → Given (gathered m' p c) p c before after r
      answered (absent k i x z earlier) nm = absurd (nm (k, x, never k x z))
      answered (all_there ma mz given) nm = given

      not_missing_given : Told before after r → (k : MendRecord) → r ≡ Ok k → IsMissing mapped ss p c → ⊥
      not_missing_given t k e miss = let told = (missing_told t miss).1 in cc

      pub promise : (loaded sent : List ℕ) → length sent ≡ 224 → take 219 sent ≡ loaded → CodedBytes gf256 224 sent → Carries mapped p c sent →
          length before ≡ 219 → Asked m' p c before after r → Promise mapped ss p c loaded sent after r
      promise loaded sent long begins coded carries place asked =
          let t = told before after r place asked in
          record {
            told_missing = ((λ o. let w = which t o.0 o.1 in (o.0, w.0, w.1)), missing_told t);
            told_which = which t;
            told_first = first t;
            gathers = λ nm. (gathered m' p c, gathered_block);
            has_first = λ nm n x. first_of n (crossed_low n x) (offered n x (there_marked nm n x));
            has_worst = has_worst;
            told_lost = λ nm g gg.
                subst (λ b. (r ≡ Err (denied Lost Code p c)) ↔ ((v : List ℕ) → WithinTwoBytes gf256 224 b v → ⊥)) (sym (same_block nm g gg))
                ((λ e. no_near _ e (answered t nm)), (λ none. ((answered t nm).lost none).1));
            told_else = λ nm. lost_or_given (answered t nm) r refl;
            told_given = λ g gg k e.
                let nm = not_missing_given t k e in
                let given = answered t nm in
                let s = given.sound k e in
                let o = given.gives s.0 s.1 in
                let same : o.1.0 ≡ k = let is = o.1.1 in cc in
                subst (λ b. (v : List ℕ) × (after ≡ take 219 v) × WithinTwoBytes gf256 224 b v × ((u : List ℕ) → WithinTwoBytes gf256 224 b u → u ≡ v) × (places k ≡ differing_bytes v b))
                (sym (same_block nm g gg)) (s.0, o.0, s.1, s.2, ap places (sym same) ∙ o.1.2);
            as_sent = λ nm sum worsts few g gg.
                let close = near_enough sent g long carries gg sum worsts in
                let near : WithinTwoBytes gf256 224 g sent = record { size = gg.size; coded = coded; close = omega arith } in
                subst (λ b. WithinTwoBytes gf256 224 b sent → (after ≡ loaded) × ((k : MendRecord) × (r ≡ Ok k) × (places k ≡ differing_bytes sent b)))
                (sym (same_block nm g gg)) (λ close. let o = (answered t nm).gives sent close in (o.0 ∙ begins, o.1)) near;
          }
