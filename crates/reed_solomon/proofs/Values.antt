-- Values of polynomials, and powers.
use mathlib.Core.Path.{◌≡◌}
use mathlib.Core.List.{List, [], ◌∷◌, ◌++◌}
use Prim.Native.Nat.{ℕ, suc}
use lib.ListN.{length}
use Rattle.galois.specs.Field.{Arithmetic, Laws, power}
use Rattle.reed_solomon.specs.Polynomial.{sum, scaled, product, value, linear}
use Rattle.reed_solomon.proofs.Ring.{ring}
use Rattle.reed_solomon.proofs.Clauses.{clauses}

module _ {F : Type 0} (K : Arithmetic F) (laws : Laws K) where
  open K use {zero as 𝟘, one as 𝟙, plus as ◌+◌, times as ◌*◌}

  infixl 60 ◌+◌
  infixl 70 ◌*◌
  pub power_one : (k : ℕ) → power K 𝟙 k ≡ 𝟙
  power_one ℕ.zero = simp clauses
  power_one (suc k) = simp (clauses, power_one k, ring)

  pub power_times : (x y : F) (k : ℕ) → power K (x * y) k ≡ power K x k * power K y k
  power_times x y ℕ.zero = simp (clauses, ring)
  power_times x y (suc k) = simp (clauses, power_times x y k, ring)

  pub power_swap : (x : F) (i k : ℕ) → power K (power K x i) k ≡ power K (power K x k) i
  power_swap x ℕ.zero k = simp (clauses, power_one)
  power_swap x (suc i) k = simp (clauses, power_times, power_swap x i k)

  pub value_sum : (p q : List F) (x : F) → value K (sum K p q) x ≡ value K p x + value K q x
  value_sum [] q x = simp (clauses, ring)
  value_sum (a ∷ p) [] x = simp (clauses, ring)
  value_sum (a ∷ p) (b ∷ q) x = simp (clauses, value_sum p q x, ring)

  pub value_scaled : (a : F) (q : List F) (x : F) → value K (scaled K a q) x ≡ a * value K q x
  value_scaled a [] x = simp (clauses, ring)
  value_scaled a (b ∷ q) x = simp (clauses, value_scaled a q x, ring)

  pub value_product : (p q : List F) (x : F) → value K (product K p q) x ≡ value K p x * value K q x
  value_product [] q x = simp (clauses, ring)
  value_product (a ∷ p) q x = simp (clauses, value_sum, value_scaled, value_product p q x, ring)

  pub value_linear : (r x : F) → value K (linear K r) x ≡ x + r
  value_linear r x = simp (clauses, ring)

  pub value_append : (p : List F) (e x : F) → value K (p ++ (e ∷ [])) x ≡ value K p x + e * power K x (length p)
  value_append [] e x = simp (clauses, ring)
  value_append (a ∷ p) e x = simp (clauses, value_append p e x, ring)
