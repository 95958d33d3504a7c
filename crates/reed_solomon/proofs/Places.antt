-- The places in which two words differ, one or two of them.
use mathlib.Core.Path.{◌≡◌, refl, sym, ◌∙◌, ap, ap₂, subst}
use mathlib.Core.Logic.{inl, inr}
use mathlib.Core.List.{List, [], ◌∷◌}
use Prim.Native.Nat.{ℕ, suc, ◌<◌, ◌≤◌}
use native.Mathlib.Omega.{arith}
use lib.ListN.{length}
use Rattle.galois.specs.Field.{Arithmetic, Laws}
use Rattle.reed_solomon.specs.Code.{distance, Coded}
use Rattle.reed_solomon.specs.Errors.{altered, locator}
use Rattle.reed_solomon.proofs.Ring.{ring, plus_cancel}
use Rattle.reed_solomon.proofs.Moments.{nil_distance, differ_cases, distance_cons}
use Rattle.reed_solomon.proofs.Errors.{OneError, TwoErrors, altered_here, altered_next, finds_one, finds_two}

module _ {F : Type 0} (K : Arithmetic F) (laws : Laws K) where
  open K use {zero as 𝟘, plus as ◌+◌}

  infixl 60 ◌+◌
  record One (c w : List F) : Type 0 where
    pub at : ℕ
    pub by : F
    pub inside : at < length c
    pub nonzero : ¬ (by ≡ 𝟘)
    pub is : w ≡ altered K c at by

  record Two (c w : List F) : Type 0 where
    pub at : ℕ
    pub also : ℕ
    pub by : F
    pub and_by : F
    pub order : at < also
    pub inside : also < length c
    pub nonzero : ¬ (by ≡ 𝟘)
    pub nonzero' : ¬ (and_by ≡ 𝟘)
    pub is : w ≡ altered K (altered K c at by) also and_by

  pub none : (c w : List F) → length c ≡ length w → distance K.number c w ≡ 0 → w ≡ c
  none [] [] size d = refl
  none [] (y ∷ w) size d = absurd (omega arith)
  none (x ∷ c) [] size d = absurd (omega arith)
  none (x ∷ c) (y ∷ w) size d =
      elim (differ_cases K laws x y) [
        | inl h ↦ ap₂ ◌∷◌ (sym h.0) (none c w (omega arith) (omega (arith, distance_cons K laws x y c w)))
        | inr h ↦ absurd (omega (arith, distance_cons K laws x y c w))
      ]

  -- the difference of two symbols
  apart : (x y : F) → ¬ (x ≡ y) → ¬ (x + y ≡ 𝟘)
  apart x y ne e = ne (plus_cancel K laws x y e)

  first : (x y : F) (c : List F) → y ∷ c ≡ altered K (x ∷ c) 0 (x + y)
  first x y c = rw altered_here (simp ring)

  -- where the first symbols differ, and where they are the same
  one_here : (x y : F) (c w : List F) → ¬ (x ≡ y) → w ≡ c → One (x ∷ c) (y ∷ w)
  one_here x y c w ne e =
      record { at = 0; by = x + y; inside = omega arith; nonzero = apart x y ne; is = ap (λ v. y ∷ v) e ∙ first x y c }

  one_later : (x y : F) (c w : List F) → x ≡ y → One c w → One (x ∷ c) (y ∷ w)
  one_later x y c w e o =
      record {
        at = suc o.at;
        by = o.by;
        inside = omega arith;
        nonzero = o.nonzero;
        is = ap₂ ◌∷◌ (sym e) o.is ∙ sym (altered_next K laws x c o.at o.by);
      }

  two_here : (x y : F) (c w : List F) → ¬ (x ≡ y) → One c w → Two (x ∷ c) (y ∷ w)
  two_here x y c w ne o =
      record {
        at = 0;
        also = suc o.at;
        by = x + y;
        and_by = o.by;
        order = omega arith;
        inside = omega arith;
        nonzero = apart x y ne;
        nonzero' = o.nonzero;
        is = ap (λ v. y ∷ v) o.is ∙ sym (altered_next K laws y c o.at o.by) ∙ ap (λ v. altered K v (suc o.at) o.by) (first x y c);
      }

  two_later : (x y : F) (c w : List F) → x ≡ y → Two c w → Two (x ∷ c) (y ∷ w)
  two_later x y c w e o =
      record {
        at = suc o.at;
        also = suc o.also;
        by = o.by;
        and_by = o.and_by;
        order = omega arith;
        inside = omega arith;
        nonzero = o.nonzero;
        nonzero' = o.nonzero';
        is = ap₂ ◌∷◌ (sym e) o.is ∙ simp (altered_next K laws);
      }

  one : (c w : List F) → length c ≡ length w → distance K.number c w ≡ 1 → One c w
  one [] [] size d = absurd (omega (arith, nil_distance K laws))
  one [] (y ∷ w) size d = absurd (omega arith)
  one (x ∷ c) [] size d = absurd (omega arith)
  one (x ∷ c) (y ∷ w) size d =
      elim (differ_cases K laws x y) [
        | inr h ↦ one_here x y c w h.0 (none c w (omega arith) (omega (arith, distance_cons K laws x y c w)))
        | inl h ↦ one_later x y c w h.0 (one c w (omega arith) (omega (arith, distance_cons K laws x y c w)))
      ]

  two : (c w : List F) → length c ≡ length w → distance K.number c w ≡ 2 → Two c w
  two [] [] size d = absurd (omega (arith, nil_distance K laws))
  two [] (y ∷ w) size d = absurd (omega arith)
  two (x ∷ c) [] size d = absurd (omega arith)
  two (x ∷ c) (y ∷ w) size d =
      elim (differ_cases K laws x y) [
        | inr h ↦ two_here x y c w h.0 (one c w (omega arith) (omega (arith, distance_cons K laws x y c w)))
        | inl h ↦ two_later x y c w h.0 (two c w (omega arith) (omega (arith, distance_cons K laws x y c w)))
      ]

-- A word that differs from a coded word in one place, and what its syndromes then say.
pub one_apart : {F : Type 0} (K : Arithmetic F) → Laws K → (n : ℕ) → 5 ≤ n → n ≤ K.order →
    (c w : List F) → Coded K n c → length w ≡ n → distance K.number c w ≡ 1 →
    (i : ℕ) × (e : F) × (i < n) × (¬ (e ≡ K.zero)) × (w ≡ altered K c i e) × OneError K w (locator K n i) e
one_apart K laws n five short c w coded size d =
    let o : One K laws c w = one K laws c w (coded.size ∙ sym size) d in (
      o.at,
      o.by,
      omega (arith, coded.size),
      o.nonzero,
      o.is,
      subst (λ v. OneError K v (locator K n o.at) o.by) (sym o.is) (finds_one K laws n five short c coded o.at (omega (arith, coded.size)) o.by),
    )

-- And in two places.
pub two_apart : {F : Type 0} (K : Arithmetic F) → Laws K → (n : ℕ) → 5 ≤ n → n ≤ K.order →
    (c w : List F) → Coded K n c → length w ≡ n → distance K.number c w ≡ 2 →
    (i j : ℕ) × (a b : F) × (i < j) × (j < n) × (¬ (a ≡ K.zero)) × (¬ (b ≡ K.zero)) ×
    (w ≡ altered K (altered K c i a) j b) × TwoErrors K w (locator K n i) (locator K n j) a b
two_apart K laws n five short c w coded size d =
    let o : Two K laws c w = two K laws c w (coded.size ∙ sym size) d in (
      o.at,
      o.also,
      o.by,
      o.and_by,
      o.order,
      omega (arith, coded.size),
      o.nonzero,
      o.nonzero',
      o.is,
      subst (λ v. TwoErrors K v (locator K n o.at) (locator K n o.also) o.by o.and_by) (sym o.is) (finds_two K laws n five short c coded o.at o.also (omega (arith, coded.size)) (omega (arith, coded.size)) (omega arith)
          o.by o.and_by o.nonzero o.nonzero'),
    )
