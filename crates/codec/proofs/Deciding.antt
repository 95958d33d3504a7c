-- What the syndromes of a word decide: whether a coded word is within two, and which.
use Rattle.std.proofs.Common.{◌≡◌, ℕ, zero, suc, ◌-◌, ◌<◌, ◌≤◌, ◌⊎◌, List, length, sym, refl, ap, ◌∙◌, subst, inl, inr, arith}
use Prim.Native.Nat as N
use native.Mathlib.Decide.{dec_lt}
use Rattle.galois.specs.Field.{Arithmetic, Laws, power}
use Rattle.reed_solomon.specs.Code.{distance, syndrome}
use Rattle.reed_solomon.specs.Errors.{altered, locator, determinant, quadratic}
use Rattle.reed_solomon.proofs.Ring.{ring, plus_cancel, times_both}
use Rattle.reed_solomon.proofs.Clauses.{powers, power_suc, power_1}
use Rattle.reed_solomon.proofs.Errors.{determinant_clause, quadratic_clause, determinant_is}
use Rattle.reed_solomon.proofs.Places as words
use Rattle.reed_solomon.proofs.Places.{one_apart, two_apart}
use Rattle.reed_solomon.proofs.Factors.{coded_by_syndromes}
use Rattle.reed_solomon.proofs.Mending.{below_four, mends_one, mends_two, two_sums}
use Rattle.codec.specs.declared.syndromes.Syndromes.{Syndromes}
use Rattle.codec.specs.declared.roots.Trinomial.{Trinomial}
use Rattle.codec.specs.Mend.{WithinTwo}
use Rattle.codec.specs.Steps.{AllZero, NoRoot, syndromes, trinomial_at}
use Rattle.codec.proofs.Changes.{differing_none, differing_one, differing_two}

module _ {F : Type 0} (K : Arithmetic F) (laws : Laws K) (w : List F) (long : 5 ≤ length w) (short : length w ≤ K.order) where
  open K use {zero as 𝟘, one as 𝟙, plus as ◌+◌, times as ◌*◌, alpha as α}

  infixl 60 ◌+◌
  infixl 70 ◌*◌
  -- the place of an exponent
  pub located : (e : ℕ) → e < length w → locator K (length w) (length w - 1 - e) ≡ power K α e
  unfolding locator
  located e h = ap (power K α) (omega arith)

  -- four zero syndromes
  abbrev pub Clean : Type 0
  Clean = (k : ℕ) → k < 4 → syndrome K w k ≡ 𝟘

  pub near_clean : Clean → WithinTwo K w w
  near_clean zeros = record { long = long; short = short; coded = (coded_by_syndromes K laws (length w) long short w refl).1 zeros; close = omega (arith, ap length (differing_none K laws w)) }

  -- one place, whose locator takes each syndrome to the next
  pub near_one : (i : ℕ) → i < length w → ¬ (syndrome K w 0 ≡ 𝟘) →
      ((k : ℕ) → k < 3 → syndrome K w k * locator K (length w) i ≡ syndrome K w (suc k)) → WithinTwo K w (altered K w i (syndrome K w 0))
  near_one i h nz steps = record {
    long = long;
    short = short;
    coded = mends_one K laws (length w) long short w refl i h steps;
    close = omega (arith, ap length (differing_one K laws w i (syndrome K w 0) h nz));
  }

  -- two places, whose locators are roots of the quadratic
  module _ (i j : ℕ) (ij : i < j) (h : j < length w) (a b : F) (regular : ¬ (determinant K w ≡ 𝟘))
      (qi : quadratic K w (locator K (length w) i) ≡ 𝟘) (qj : quadratic K w (locator K (length w) j) ≡ 𝟘)
      (first : a * (locator K (length w) i + locator K (length w) j) ≡ syndrome K w 0 * locator K (length w) j + syndrome K w 1)
      (second : b ≡ syndrome K w 0 + a) where
    product : determinant K w ≡ a * b * ((locator K (length w) i + locator K (length w) j) * (locator K (length w) i + locator K (length w) j))
    product = determinant_is K laws w _ _ a b (two_sums K laws w _ _ a b regular qi qj first second)

    pub first_nonzero : ¬ (a ≡ 𝟘)
    first_nonzero e = regular (product ∙ rw e (simp ring))

    pub second_nonzero : ¬ (b ≡ 𝟘)
    second_nonzero e = regular (product ∙ rw e (simp ring))

    pub near_two : WithinTwo K w (altered K (altered K w i a) j b)
    near_two = record {
      long = long;
      short = short;
      coded = mends_two K laws (length w) long short w refl i j (omega arith) h a b regular qi qj first second;
      close = omega (arith, ap length (differing_two K laws w i j a b ij h first_nonzero second_nonzero));
    }

  -- a near word is w itself, or one or two places away
  pub record Single : Type 0 where
    pub exponent : ℕ
    pub below : exponent < length w
    pub nonzero : ¬ (syndrome K w 0 ≡ 𝟘)
    pub sums : (k : ℕ) → k < 4 → syndrome K w k ≡ syndrome K w 0 * power K (power K α exponent) k
    pub singular : determinant K w ≡ 𝟘

  pub record Double : Type 0 where
    pub low : ℕ
    pub high : ℕ
    pub order : low < high
    pub below : high < length w
    pub regular : ¬ (determinant K w ≡ 𝟘)
    pub low_root : quadratic K w (power K α low) ≡ 𝟘
    pub high_root : quadratic K w (power K α high) ≡ 𝟘

  module _ (v : List F) (near : WithinTwo K w v) where
    clean_of : distance K.number v w ≡ 0 → Clean
    clean_of d =
        let same : w ≡ v = words.none K laws v w near.coded.size d in
        λ k h. ap (λ u. syndrome K u k) same ∙ (coded_by_syndromes K laws (length w) long short v near.coded.size).0 near.coded k h

    single_of : distance K.number v w ≡ 1 → Single
    unfolding locator
    single_of d =
        let o = one_apart K laws (length w) long short v w near.coded refl d in
        let start : syndrome K w 0 ≡ o.1 = o.5.sums 0 (omega arith) ∙ simp (powers, ring) in
        record {
          exponent = length w - suc o.0;
          below = omega (arith, o.2);
          nonzero = λ e. o.3 (sym start ∙ e);
          sums = λ k h. o.5.sums k h ∙ ap (λ e. e * power K (locator K (length w) o.0) k) (sym start);
          singular = o.5.singular;
        }

    double_of : distance K.number v w ≡ 2 → Double
    unfolding locator
    double_of d =
        let o = two_apart K laws (length w) long short v w near.coded refl d in
        record {
          low = length w - suc o.1;
          high = length w - suc o.0;
          order = omega (arith, o.4, o.5);
          below = omega (arith, o.4, o.5);
          regular = o.9.regular;
          low_root = (o.9.roots _).1 (inr refl);
          high_root = (o.9.roots _).1 (inl refl);
        }

    cases : (d : ℕ) → distance K.number v w ≡ d → d ≤ 2 → Clean ⊎ (Single ⊎ Double)
    cases zero e h = inl (clean_of e)
    cases (suc zero) e h = inr (inl (single_of e))
    cases (suc (suc zero)) e h = inr (inr (double_of e))
    cases (suc (suc (suc d))) e h = absurd (omega arith)

    pub by_distance : Clean ⊎ (Single ⊎ Double)
    by_distance = cases (distance K.number v w) refl near.close

  clean_singular : Clean → determinant K w ≡ 𝟘
  clean_singular zeros = determinant_clause K laws w ∙ rw (zeros 0 (omega arith), zeros 1 (omega arith)) (simp ring)

  pub is_single : ¬ Clean → determinant K w ≡ 𝟘 → (v : List F) → WithinTwo K w v → Single
  is_single unclean singular v near =
      elim (by_distance v near) [ inl c ↦ absurd (unclean c) | inr o ↦ elim o [ inl s ↦ s | inr t ↦ absurd (t.regular singular) ] ]

  pub is_double : ¬ (determinant K w ≡ 𝟘) → (v : List F) → WithinTwo K w v → Double
  is_double regular v near =
      elim (by_distance v near) [ inl c ↦ absurd (regular (clean_singular c)) | inr o ↦ elim o [ inl s ↦ absurd (regular s.singular) | inr t ↦ t ] ]

  -- S₀x + S₁
  abbrev pub line : Trinomial F
  line = record { square = 𝟘; linear = syndrome K w 0; constant = syndrome K w 1 }

  -- its root is the locator of the one error
  single_root : (s : Single) → trinomial_at K line (power K α s.exponent) ≡ 𝟘
  single_root s = ap (λ y. 𝟘 * (x * x) + s₀ * x + y) (s.sums 1 (omega arith) ∙ ap (λ y. s₀ * y) (power_1 K laws x)) ∙ simp ring
    where
      x : F
      x = power K α s.exponent

      s₀ : F
      s₀ = syndrome K w 0

  single_is : (s : Single) (z : F) → trinomial_at K line z ≡ 𝟘 → z ≡ power K α s.exponent
  single_is s z root =
      times_both K laws z (power K α s.exponent) (syndrome K w 0) s.nonzero
      (plus_cancel K laws _ _ (simp ring (simp ring at root)) ∙ s.sums 1 (omega arith) ∙ ap (λ y. syndrome K w 0 * y) (power_1 K laws _) ∙ simp ring)

  -- and takes each syndrome to the next
  single_steps : (s : Single) (k : ℕ) → k < 3 → syndrome K w k * power K α s.exponent ≡ syndrome K w (suc k)
  single_steps s k h =
      ap (λ y. y * power K α s.exponent) (s.sums k (omega arith))
      ∙ sym (s.sums (suc k) (omega arith) ∙ ap (λ y. syndrome K w 0 * y) (power_suc K (power K α s.exponent) k) ∙ simp ring)

  -- the same, of the values that the program holds
  module _ (s : Syndromes F) (told : s ≡ syndromes K w) where
    pub told_clean : AllZero K s → WithinTwo K w w
    told_clean z = near_clean (below_four _
        (ap (λ u. u.s0) (sym told) ∙ z.zeroth) (ap (λ u. u.s1) (sym told) ∙ z.first) (ap (λ u. u.s2) (sym told) ∙ z.second) (ap (λ u. u.s3) (sym told) ∙ z.third))

    is_unclean : ¬ AllZero K s → ¬ Clean
    is_unclean unclean zeros = unclean (subst (λ u. AllZero K u) (sym told)
        (record { zeroth = zeros 0 (omega arith); first = zeros 1 (omega arith); second = zeros 2 (omega arith); third = zeros 3 (omega arith) }))

    pub told_determinant : (d : F) → d ≡ s.s0 * s.s2 + s.s1 * s.s1 → d ≡ determinant K w
    told_determinant d e = e ∙ ap (λ u. u.s0 * u.s2 + u.s1 * u.s1) told ∙ sym (determinant_clause K laws w)

    pub told_quadratic : (t : Trinomial F) → t.square ≡ s.s0 * s.s2 + s.s1 * s.s1 → t.linear ≡ s.s0 * s.s3 + s.s1 * s.s2 →
        t.constant ≡ s.s1 * s.s3 + s.s2 * s.s2 → (x : F) → trinomial_at K t x ≡ quadratic K w x
    told_quadratic t ea eb ec x =
        (λ i. trinomial_at K (record {
          square = told_determinant t.square ea i;
          linear = (eb ∙ ap (λ u. u.s0 * u.s3 + u.s1 * u.s2) told) i;
          constant = (ec ∙ ap (λ u. u.s1 * u.s3 + u.s2 * u.s2) told) i;
        }) x)
        ∙ sym (quadratic_clause K laws w x)

    -- the line that the program makes
    line_is : (z : F) → z ≡ 𝟘 → record { square = z; linear = s.s0; constant = s.s1 } ≡ line
    line_is z e = λ i. record { square = e i; linear = (told i).s0; constant = (told i).s1 }

    module _ (unclean : ¬ AllZero K s) (singular : determinant K w ≡ 𝟘) where
      single : (v : List F) → WithinTwo K w v → Single
      single = is_single (is_unclean unclean) singular

      pub one_zero : s.s0 ≡ 𝟘 → (v : List F) → WithinTwo K w v → ⊥
      one_zero e v near = (single v near).nonzero (ap (λ u. u.s0) (sym told) ∙ e)

      pub one_missed : (z : F) → z ≡ 𝟘 → NoRoot K (record { square = z; linear = s.s0; constant = s.s1 }) 0 (length w) →
          (v : List F) → WithinTwo K w v → ⊥
      one_missed z e missed v near =
          let o = single v near in
          missed o.exponent (omega arith) o.below (ap (λ t. trinomial_at K t (power K α o.exponent)) (line_is z e) ∙ single_root o)

      pub one_wrong : (z x : F) → z ≡ 𝟘 → trinomial_at K (record { square = z; linear = s.s0; constant = s.s1 }) x ≡ 𝟘 →
          ((s.s1 * x ≡ s.s2) × (s.s2 * x ≡ s.s3) → ⊥) → (v : List F) → WithinTwo K w v → ⊥
      one_wrong z x e root wrong v near =
          let o = single v near in
          let is : x ≡ power K α o.exponent = single_is o x (ap (λ t. trinomial_at K t x) (sym (line_is z e)) ∙ root) in
          wrong (
            (λ i. (told i).s1 * is i) ∙ single_steps o 1 (omega arith) ∙ ap (λ u. u.s2) (sym told),
            (λ i. (told i).s2 * is i) ∙ single_steps o 2 (omega arith) ∙ ap (λ u. u.s3) (sym told),
          )

    pub one_right : (z x : F) (e : ℕ) → z ≡ 𝟘 → ¬ (s.s0 ≡ 𝟘) → trinomial_at K (record { square = z; linear = s.s0; constant = s.s1 }) x ≡ 𝟘 →
        s.s1 * x ≡ s.s2 → s.s2 * x ≡ s.s3 → e < length w → x ≡ power K α e → WithinTwo K w (altered K w (length w - 1 - e) s.s0)
    one_right z x e ez nz root second third below is =
        subst (λ u. WithinTwo K w (altered K w (length w - 1 - e) u.s0)) (sym told)
        (near_one (length w - 1 - e) (omega arith) (λ q. nz (ap (λ u. u.s0) told ∙ q)) steps)
      where
        at : x ≡ locator K (length w) (length w - 1 - e)
        at = is ∙ sym (located e below)

        first : s.s0 * x ≡ s.s1
        first = plus_cancel K laws _ _ (sym (rw ez (simp ring)) ∙ root)

        three : (P : ℕ → Type 0) → P 0 → P 1 → P 2 → (k : ℕ) → k < 3 → P k
        three P p₀ p₁ p₂ zero h = p₀
        three P p₀ p₁ p₂ (suc zero) h = p₁
        three P p₀ p₁ p₂ (suc (suc zero)) h = p₂
        three P p₀ p₁ p₂ (suc (suc (suc k))) h = absurd (omega arith)

        Steps : Syndromes F → F → Type 0
        Steps u y = (u.s0 * y ≡ u.s1) × (u.s1 * y ≡ u.s2) × (u.s2 * y ≡ u.s3)

        all : Steps (syndromes K w) (locator K (length w) (length w - 1 - e))
        all = subst (λ y. Steps (syndromes K w) y) at (subst (λ u. Steps u x) told (first, second, third))

        steps : (k : ℕ) → k < 3 → syndrome K w k * locator K (length w) (length w - 1 - e) ≡ syndrome K w (suc k)
        steps = three _ all.0 all.1 all.2

    module _ (regular : ¬ (determinant K w ≡ 𝟘)) (t : Trinomial F) (shape : (x : F) → trinomial_at K t x ≡ quadratic K w x) where
      pub two_first : NoRoot K t 0 (length w) → (v : List F) → WithinTwo K w v → ⊥
      two_first missed v near =
          let d = is_double regular v near in missed d.low (omega arith) (omega (arith, d.order, d.below)) (shape _ ∙ d.low_root)

      pub two_second : (g : ℕ) → NoRoot K t 0 g → NoRoot K t (N.◌+◌ g 1) (length w) → (v : List F) → WithinTwo K w v → ⊥
      two_second g before after v near =
          let d = is_double regular v near in
          elim (dec_lt d.low g) [
            | yes h ↦ before d.low (omega arith) h (shape _ ∙ d.low_root)
            | no h ↦ after d.high (omega (arith, d.order)) d.below (shape _ ∙ d.high_root)
          ]

      -- the two altered places: the later one has the smaller exponent
      module _ (e f : ℕ) (x y p q : F) (ef : e < f) (below : f < length w) (at_x : x ≡ power K α f) (at_y : y ≡ power K α e)
          (root_x : trinomial_at K t x ≡ 𝟘) (root_y : trinomial_at K t y ≡ 𝟘) (first : p * (x + y) ≡ s.s0 * y + s.s1) (second : q ≡ s.s0 + p) where
        loc_x : locator K (length w) (length w - 1 - f) ≡ x
        loc_x = located f below ∙ sym at_x

        loc_y : locator K (length w) (length w - 1 - e) ≡ y
        loc_y = located e (omega arith) ∙ sym at_y

        zero_x : quadratic K w (locator K (length w) (length w - 1 - f)) ≡ 𝟘
        zero_x = ap (quadratic K w) loc_x ∙ sym (shape x) ∙ root_x

        zero_y : quadratic K w (locator K (length w) (length w - 1 - e)) ≡ 𝟘
        zero_y = ap (quadratic K w) loc_y ∙ sym (shape y) ∙ root_y

        first_at : p * (locator K (length w) (length w - 1 - f) + locator K (length w) (length w - 1 - e))
            ≡ syndrome K w 0 * locator K (length w) (length w - 1 - e) + syndrome K w 1
        first_at = (λ i. p * (loc_x i + loc_y i)) ∙ first ∙ (λ i. (told i).s0 * sym loc_y i + (told i).s1)

        second_at : q ≡ syndrome K w 0 + p
        second_at = second ∙ ap (λ u. u.s0 + p) told

        pub two_right : WithinTwo K w (altered K (altered K w (length w - 1 - f) p) (length w - 1 - e) q)
        two_right = near_two _ _ (omega arith) (omega arith) p q regular zero_x zero_y first_at second_at

        pub two_nonzero : (¬ (p ≡ 𝟘)) × (¬ (q ≡ 𝟘))
        two_nonzero = (
          first_nonzero (length w - 1 - f) (length w - 1 - e) (omega arith) (omega arith) p q regular zero_x zero_y first_at second_at,
          second_nonzero (length w - 1 - f) (length w - 1 - e) (omega arith) (omega arith) p q regular zero_x zero_y first_at second_at,
        )
