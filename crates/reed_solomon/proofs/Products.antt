-- The product with a linear factor on the right is associative.
use mathlib.Core.Path.{◌≡◌, sym, ◌∙◌, ap, ap₂}
use mathlib.Core.List.{List, [], ◌∷◌}
use Rattle.galois.specs.Field.{Arithmetic, Laws}
use Rattle.reed_solomon.specs.Polynomial.{sum, scaled, product, linear}
use Rattle.reed_solomon.proofs.Ring.{ring}
use Rattle.reed_solomon.proofs.Clauses.{clauses, sum_nil, sum_cons, scaled_cons, product_nil, product_cons, linear_is}

module _ {F : Type 0} (K : Arithmetic F) (laws : Laws K) where
  open K use {zero as 𝟘, one as 𝟙, plus as ◌+◌, times as ◌*◌}

  infixl 60 ◌+◌
  infixl 70 ◌*◌
  sum_right_nil : (p : List F) → sum K p [] ≡ p
  sum_right_nil [] = simp clauses
  sum_right_nil (a ∷ p) = simp clauses

  sum_comm : (p q : List F) → sum K p q ≡ sum K q p
  sum_comm [] q = simp (clauses, sum_right_nil)
  sum_comm (a ∷ p) [] = simp clauses
  sum_comm (a ∷ p) (b ∷ q) = simp (clauses, sum_comm p q, ring)

  sum_assoc : (p q t : List F) → sum K (sum K p q) t ≡ sum K p (sum K q t)
  sum_assoc [] q t = simp clauses
  sum_assoc (a ∷ p) [] t = simp clauses
  sum_assoc (a ∷ p) (b ∷ q) [] = simp clauses
  sum_assoc (a ∷ p) (b ∷ q) (c ∷ t) = simp (clauses, sum_assoc p q t, ring)

  sum_left_comm : (p q t : List F) → sum K p (sum K q t) ≡ sum K q (sum K p t)
  sum_left_comm p q t = cc (sum_assoc p q t, sum_assoc q p t, sum_comm p q)

  ruleset sums = (sum_nil, sum_right_nil, sum_comm, sum_assoc, sum_left_comm)

  shifted_sum : (p q : List F) → 𝟘 ∷ sum K p q ≡ sum K (𝟘 ∷ p) (𝟘 ∷ q)
  shifted_sum p q = simp (clauses, ring)

  scaled_plus : (a b : F) (t : List F) → scaled K (a + b) t ≡ sum K (scaled K a t) (scaled K b t)
  scaled_plus a b [] = simp clauses
  scaled_plus a b (c ∷ t) = simp (clauses, scaled_plus a b t, ring)

  scaled_sum : (a : F) (p q : List F) → scaled K a (sum K p q) ≡ sum K (scaled K a p) (scaled K a q)
  scaled_sum a [] q = simp clauses
  scaled_sum a (b ∷ p) [] = simp clauses
  scaled_sum a (b ∷ p) (c ∷ q) = simp (clauses, scaled_sum a p q, ring)

  scaled_scaled : (a b : F) (t : List F) → scaled K a (scaled K b t) ≡ scaled K (a * b) t
  scaled_scaled a b [] = simp clauses
  scaled_scaled a b (c ∷ t) = simp (clauses, scaled_scaled a b t, ring)

  product_sum : (u v t : List F) → product K (sum K u v) t ≡ sum K (product K u t) (product K v t)
  product_sum [] v t = simp clauses
  product_sum (a ∷ u) [] t = simp (clauses, sum_right_nil)
  product_sum (a ∷ u) (b ∷ v) t = simp (sum_cons, product_cons, product_sum u v t) (rw (scaled_plus, shifted_sum) (simp sums))

  product_scaled : (a : F) (u t : List F) → product K (scaled K a u) t ≡ scaled K a (product K u t)
  product_scaled a [] t = simp clauses
  product_scaled a (b ∷ u) t = simp (clauses, scaled_sum, scaled_scaled, product_scaled a u t, ring)

  -- a product by a nonempty polynomial begins so
  product_starts : (a x : F) (p s : List F) → product K (a ∷ p) (x ∷ s) ≡ a * x ∷ sum K (scaled K a s) (product K p (x ∷ s))
  product_starts a x p s = simp (product_cons, scaled_cons, sum_cons, ring)

  product_shifted : (r y : F) (u : List F) → product K (𝟘 ∷ y ∷ u) (linear K r) ≡ 𝟘 ∷ product K (y ∷ u) (linear K r)
  product_shifted r y u = simp (clauses, ring)

  product_single : (a x : F) (s : List F) → product K (a ∷ []) (x ∷ s) ≡ scaled K a (x ∷ s)
  product_single a x s = simp (clauses, sum_right_nil, ring)

  product_assoc_cons : (r x : F) (p s : List F) → product K (product K p (x ∷ s)) (linear K r) ≡ product K p (product K (x ∷ s) (linear K r))
  product_assoc_cons r x [] s = simp product_nil
  product_assoc_cons r x (a ∷ []) s =
      ap (λ q. product K q (linear K r)) (product_single a x s) ∙ product_scaled a (x ∷ s) (linear K r)
      ∙ sym (rw (linear_is, product_starts x r s (𝟙 ∷ [])) (product_single a _ _))
  product_assoc_cons r x (a ∷ b ∷ p) s =
      ap (λ q. product K q (linear K r)) (product_cons K a (b ∷ p) (x ∷ s))
      ∙ product_sum (scaled K a (x ∷ s)) (𝟘 ∷ product K (b ∷ p) (x ∷ s)) (linear K r)
      ∙ ap₂ (sum K) (product_scaled a (x ∷ s) (linear K r)) (shift ∙ ap (λ q. 𝟘 ∷ q) (product_assoc_cons r x (b ∷ p) s))
      ∙ sym (product_cons K a (b ∷ p) (product K (x ∷ s) (linear K r)))
    where
      shift : product K (𝟘 ∷ product K (b ∷ p) (x ∷ s)) (linear K r) ≡ 𝟘 ∷ product K (product K (b ∷ p) (x ∷ s)) (linear K r)
      shift = rw product_starts (product_shifted r _ _)

  abbrev pub Nonempty : List F → Type 0
  Nonempty [] = ⊥
  Nonempty (x ∷ s) = Unit {0}

  pub nonempty_product : (p q : List F) → Nonempty p → Nonempty q → Nonempty (product K p q)
  unfolding product sum scaled
  nonempty_product [] q hp hq = hp
  nonempty_product (a ∷ p) [] hp hq = absurd hq
  nonempty_product (a ∷ p) (b ∷ q) hp hq = tt

  pub nonempty_linear : (r : F) → Nonempty (linear K r)
  unfolding linear
  nonempty_linear r = tt

  pub product_assoc : (r : F) (p s : List F) → Nonempty s → product K (product K p s) (linear K r) ≡ product K p (product K s (linear K r))
  product_assoc r p [] h = absurd h
  product_assoc r p (x ∷ s) h = product_assoc_cons r x p s
