-- Division by the generator, symbol by symbol: the remainder keeps the word's values at the four roots.
use Rattle.std.proofs.Common.{◌≡◌, ℕ, ◌<◌, ◌≤◌, List, [], ◌∷◌, ◌++◌, reverse, length, sym, refl, ap, ◌∙◌, subst, ap₂, inl, inr, append_assoc, append-nil, arith, length-append}
use Prim.Native.Nat as N
use Rattle.std.proofs.lemmas.List.{append_cancel_left, reverse-append}
use Rattle.galois.specs.Field.{Arithmetic, Laws, power}
use Rattle.galois.specs.Roots.{cubic_at, Leaves}
use Rattle.galois.specs.declared.cubic.Cubic.{Cubic}
use Rattle.reed_solomon.specs.Polynomial.{value}
use Rattle.reed_solomon.specs.Code.{distance, Coded, syndrome}
use Rattle.reed_solomon.proofs.Ring.{ring, plus_self}
use Rattle.reed_solomon.proofs.Clauses.{value_cons, value_nil}
use Rattle.reed_solomon.proofs.Moments.{differ, nil_distance, differ_cases, distance_cons}
use Rattle.reed_solomon.proofs.Factors.{coded_by_syndromes}
use Rattle.reed_solomon.proofs.Distance.{same_syndromes}
use Rattle.codec.specs.Check.{symbols, Checks, DataLength}
use Rattle.codec.specs.Steps.{Remains}

module _ {F : Type 0} (K : Arithmetic F) (laws : Laws K) where
  open K use {zero as 𝟘, one as 𝟙, plus as ◌+◌, times as ◌*◌, alpha as α}

  infixl 60 ◌+◌
  infixl 70 ◌*◌
  -- one symbol more at the end of a word
  syndrome_push : (w : List F) (c : F) (k : ℕ) → syndrome K (w ++ (c ∷ [])) k ≡ c + power K α k * syndrome K w k
  unfolding syndrome
  syndrome_push w c k = ap (λ l. value K l (power K α k)) (reverse-append w (c ∷ [])) ∙ value_cons K c (reverse w) (power K α k)

  fold : (a t x b u : F) → (a + t) + x * (b + u) ≡ (a + x * b) + (t + x * u)
  fold a t x b u = simp ring

  power_4 : (x : F) → power K x 4 ≡ x * (x * (x * (x * 𝟙)))
  unfolding power
  power_4 x = refl

  whole : (x s a b c d : F) → (s + x * (c + x * (b + x * a))) + d * power K x 4 ≡ s + x * (c + x * (b + x * (a + x * d)))
  whole x s a b c d = simp (power_4, ring)

  -- the remainder r of a word, and what its highest coefficient leaves
  carried : (r t : Cubic F) (s x v : F) → cubic_at K t x ≡ r.k3 * power K x 4 → cubic_at K r x ≡ v →
      (s + t.k0) + x * ((r.k0 + t.k1) + x * ((r.k1 + t.k2) + x * (r.k2 + t.k3))) ≡ s + x * v
  carried r t s x v left remains =
      ap (λ y. (s + t.k0) + x * y) (ap (λ y. (r.k0 + t.k1) + x * y) (fold r.k1 t.k2 x r.k2 t.k3) ∙ fold r.k0 t.k1 x _ _)
      ∙ fold s t.k0 x _ _
      ∙ ap (λ y. (s + x * (r.k0 + x * (r.k1 + x * r.k2))) + y) left
      ∙ whole x s r.k2 r.k1 r.k0 r.k3
      ∙ ap (λ y. s + x * y) remains

  -- the remainder times X, reduced, plus the symbol
  abbrev pub shift : Cubic F → Cubic F → F → Cubic F
  shift r t s = record { k3 = r.k2 + t.k3; k2 = r.k1 + t.k2; k1 = r.k0 + t.k1; k0 = s + t.k0 }

  pub remains_push : (w : List F) (r t : Cubic F) (s : F) → Leaves K r.k3 t → Remains K w r → Remains K (w ++ (s ∷ [])) (shift r t s)
  remains_push w r t s left remains k h = carried r t s (power K α k) _ (left k h) (remains k h) ∙ sym (syndrome_push w s k)

  pub remains_none : (z : F) → z ≡ 𝟘 → Remains K [] (record { k3 = z; k2 = z; k1 = z; k0 = z })
  unfolding syndrome
  remains_none z e k h =
      ap (λ y. y + power K α k * (y + power K α k * (y + power K α k * y))) e ∙ (simp ring) ∙ sym (value_nil K (power K α k))

  -- four symbols more, one by one
  four_pushed : (w : List F) (a b c d : F) → (((w ++ (a ∷ [])) ++ (b ∷ [])) ++ (c ∷ [])) ++ (d ∷ []) ≡ w ++ (a ∷ b ∷ c ∷ d ∷ [])
  four_pushed w a b c d = simp append_assoc

  pub remains_four : (w : List F) (z : F) (r : Cubic F) → Remains K ((((w ++ (z ∷ [])) ++ (z ∷ [])) ++ (z ∷ [])) ++ (z ∷ [])) r →
      Remains K (w ++ (z ∷ z ∷ z ∷ z ∷ [])) r
  remains_four w z r = subst (λ u. Remains K u r) (four_pushed w z z z z)

  -- the value of a word with four symbols after it
  syndrome_four : (w : List F) (a b c d : F) (k : ℕ) → syndrome K (w ++ (a ∷ b ∷ c ∷ d ∷ [])) k
      ≡ d + power K α k * (c + power K α k * (b + power K α k * (a + power K α k * syndrome K w k)))
  syndrome_four w a b c d k =
      let x = power K α k in
      ap (λ u. syndrome K u k) (sym (four_pushed w a b c d))
      ∙ syndrome_push (((w ++ (a ∷ [])) ++ (b ∷ [])) ++ (c ∷ [])) d k
      ∙ ap (λ y. d + x * y) (syndrome_push ((w ++ (a ∷ [])) ++ (b ∷ [])) c k
      ∙ ap (λ y. c + x * y) (syndrome_push (w ++ (a ∷ [])) b k
      ∙ ap (λ y. b + x * y) (syndrome_push w a k)))

  -- what is left of the word and four zeros is what the four symbols have to be
  both_parts : (x v a b c d : F) → d + x * (c + x * (b + x * (a + x * v))) ≡ (d + x * (c + x * (b + x * a))) + (𝟘 + x * (𝟘 + x * (𝟘 + x * (𝟘 + x * v))))
  both_parts x v a b c d = simp ring

  zero_syndromes : (w : List F) (r : Cubic F) → Remains K (w ++ (𝟘 ∷ 𝟘 ∷ 𝟘 ∷ 𝟘 ∷ [])) r → (k : ℕ) → k < 4 → syndrome K (w ++ symbols r) k ≡ 𝟘
  zero_syndromes w r remains k h =
      syndrome_four w r.k3 r.k2 r.k1 r.k0 k
      ∙ both_parts (power K α k) (syndrome K w k) r.k3 r.k2 r.k1 r.k0
      ∙ ap₂ ◌+◌ (remains k h) (sym (syndrome_four w 𝟘 𝟘 𝟘 𝟘 k))
      ∙ plus_self K laws _

  distance_after : (w u v : List F) → distance K.number (w ++ u) (w ++ v) ≡ distance K.number u v
  distance_after [] u v = refl
  distance_after (x ∷ w) u v =
      elim (differ_cases K laws x x) [
        | inl e ↦ omega (arith, e.1, distance_cons K laws x x (w ++ u) (w ++ v), distance_after w u v)
        | inr e ↦ absurd (e.0 refl)
      ]

  differ_most : (a b : F) → differ K laws a b ≤ 1
  differ_most a b = elim (differ_cases K laws a b) [ inl e ↦ omega (arith, e.1) | inr e ↦ omega (arith, e.1) ]

  distance_most : (u v : List F) → length u ≡ length v → distance K.number u v ≤ length u
  distance_most [] [] e = omega (arith, nil_distance K laws)
  distance_most [] (b ∷ v) e = absurd (omega arith)
  distance_most (a ∷ u) [] e = absurd (omega arith)
  distance_most (a ∷ u) (b ∷ v) e = omega (arith, distance_cons K laws a b u v, differ_most a b, distance_most u v (omega arith))

  pub checks : (w : List F) (r : Cubic F) → DataLength K (length w) → Remains K (w ++ (𝟘 ∷ 𝟘 ∷ 𝟘 ∷ 𝟘 ∷ [])) r → Checks K w r
  checks w r size remains = record { coded = is; only = alone }
    where
      n : ℕ
      n = N.◌+◌ (length w) 4

      long : 5 ≤ n
      long = omega (arith, size.some)

      is : Coded K n (w ++ symbols r)
      is = (coded_by_syndromes K laws n long size.fits (w ++ symbols r) (length-append w (symbols r))).1 (zero_syndromes w r remains)

      alone : (s : List F) → Coded K n (w ++ s) → s ≡ symbols r
      alone s coded =
          let four : length s ≡ 4 = omega (arith, length-append w s, coded.size) in
          append_cancel_left w s (symbols r) (same_syndromes K laws n long (w ++ s) (w ++ symbols r) coded.size is.size size.fits
          (omega (arith, distance_after w s (symbols r), distance_most s (symbols r) four))
          (λ k h. (coded_by_syndromes K laws n long size.fits (w ++ s) coded.size).0 coded k h ∙ sym (zero_syndromes w r remains k h)))

  -- where each element times X⁴ leaves something, every run of data has its check symbols
  module _ (left : (x : F) → (t : Cubic F) × Leaves K x t) where
    remains_after : (w v : List F) (r : Cubic F) → Remains K w r → (s : Cubic F) × Remains K (w ++ v) s
    remains_after w [] r remains = (r, subst (λ u. Remains K u r) (sym (append-nil w)) remains)
    remains_after w (x ∷ v) r remains =
        let t = left r.k3 in
        let s = remains_after (w ++ (x ∷ [])) v (shift r t.0 x) (remains_push w r t.0 x t.1 remains) in
        (s.0, subst (λ u. Remains K u s.0) (append_assoc w (x ∷ []) v) s.1)

    pub some_checks : (w : List F) → DataLength K (length w) → (c : Cubic F) × Checks K w c
    some_checks w size =
        let s = remains_after [] (w ++ (𝟘 ∷ 𝟘 ∷ 𝟘 ∷ 𝟘 ∷ [])) _ (remains_none 𝟘 refl) in
        (s.0, checks w s.0 size s.1)
