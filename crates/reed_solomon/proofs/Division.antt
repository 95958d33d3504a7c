-- Division by a linear factor.
use mathlib.Core.Path.{◌≡◌, refl, sym, ◌∙◌, ap}
use mathlib.Core.List.{List, [], ◌∷◌}
use Prim.Native.Nat.{suc, ◌≤◌}
use native.Mathlib.Omega.{arith}
use lib.ListN.{length}
use Rattle.galois.specs.Field.{Arithmetic, Laws}
use Rattle.reed_solomon.specs.Polynomial.{product, value, linear}
use Rattle.reed_solomon.proofs.Ring.{ring, zero_times, plus_cancel, times_both}
use Rattle.reed_solomon.proofs.Clauses.{clauses, product_cons, value_cons}
use Rattle.reed_solomon.proofs.Values.{value_product, value_linear}

module _ {F : Type 0} (K : Arithmetic F) (laws : Laws K) where
  open K use {zero as 𝟘, one as 𝟙, plus as ◌+◌, times as ◌*◌}

  infixl 60 ◌+◌
  infixl 70 ◌*◌
  -- synthetic division: the quotient of a ∷ p by X + r, for any a
  quotient_by : F → List F → List F
  quotient_by r [] = []
  quotient_by r (b ∷ p) = value K (b ∷ p) r ∷ quotient_by r p

  length_quotient : (r : F) (p : List F) → length (quotient_by r p) ≡ length p
  unfolding quotient_by
  length_quotient r [] = refl
  length_quotient r (b ∷ p) = ap suc (length_quotient r p)

  product_step : (r c m : F) (s rest : List F) → product K s (linear K r) ≡ m ∷ rest →
      product K (c ∷ s) (linear K r) ≡ (r * c) ∷ (c + m) ∷ rest
  product_step r c m s rest e = rw (product_cons, e) (simp (clauses, ring))

  quotient_product : (r b : F) (p : List F) → product K (quotient_by r (b ∷ p)) (linear K r) ≡ (r * value K (b ∷ p) r) ∷ b ∷ p
  unfolding quotient_by
  quotient_product r b [] = simp (clauses, ring)
  quotient_product r b (c ∷ p) =
      product_step r (value K (b ∷ c ∷ p) r) _ _ _ (quotient_product r c p)
      ∙ ap (λ x. (r * value K (b ∷ c ∷ p) r) ∷ x ∷ c ∷ p) (rw (value_cons K b (c ∷ p) r) (simp ring))

  -- what a polynomial with the root r leaves when it is divided by X + r
  pub record Divided (p : List F) (r : F) : Type 0 where
    pub quotient : List F
    pub divides : product K quotient (linear K r) ≡ p
    pub shorter : suc (length quotient) ≡ length p
    pub roots : (x : F) → ¬ (x ≡ r) → value K p x ≡ 𝟘 → value K quotient x ≡ 𝟘

  pub divided : (p : List F) (r : F) → 2 ≤ length p → value K p r ≡ 𝟘 → Divided p r
  divided [] r long root = absurd (omega arith)
  divided (a ∷ []) r long root = absurd (omega arith)
  divided (a ∷ b ∷ p) r long root =
      record { quotient = q; divides = exact; shorter = ap suc (length_quotient r (b ∷ p)); roots = rest }
    where
      q : List F
      q = quotient_by r (b ∷ p)

      first : r * value K (b ∷ p) r ≡ a
      first = sym (plus_cancel K laws a _ (sym (value_cons K a (b ∷ p) r) ∙ root))

      exact : product K q (linear K r) ≡ a ∷ b ∷ p
      exact = quotient_product r b p ∙ ap (λ x. x ∷ b ∷ p) first

      rest : (x : F) → ¬ (x ≡ r) → value K (a ∷ b ∷ p) x ≡ 𝟘 → value K q x ≡ 𝟘
      rest x ne zero-at =
          times_both K laws _ 𝟘 (x + r) (λ e. ne (plus_cancel K laws x r e))
          (ap (λ y. value K q x * y) (sym (value_linear K laws r x)) ∙ sym (value_product K laws q (linear K r) x)
          ∙ ap (λ y. value K y x) exact ∙ zero-at ∙ sym (zero_times K laws (x + r)))
