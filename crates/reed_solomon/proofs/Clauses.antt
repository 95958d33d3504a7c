-- The clauses of the definitions, as equations: `simp clauses` computes with them and leaves the calls readable.
use mathlib.Core.Path.{◌≡◌, refl, ap, ◌∙◌}
use mathlib.Core.List.{List, [], ◌∷◌}
use Prim.Native.Nat.{ℕ, suc}
use lib.ListN.{length}
use Rattle.galois.specs.Field.{Arithmetic, Laws, power}
use Rattle.reed_solomon.specs.Polynomial.{sum, scaled, product, value, linear}

pub length_cons : {A : Type 0} (a : A) (w : List A) → length (a ∷ w) ≡ suc (length w)
length_cons a w = refl

module _ {F : Type 0} (K : Arithmetic F) where
  open K use {zero as 𝟘, one as 𝟙, plus as ◌+◌, times as ◌*◌}

  infixl 60 ◌+◌
  infixl 70 ◌*◌
  pub power_zero : (x : F) → power K x 0 ≡ 𝟙
  unfolding power
  power_zero x = refl

  pub power_suc : (x : F) (k : ℕ) → power K x (suc k) ≡ x * power K x k
  unfolding power
  power_suc x k = refl

  pub sum_nil : (q : List F) → sum K [] q ≡ q
  unfolding sum
  sum_nil q = refl

  pub sum_cons_nil : (a : F) (p : List F) → sum K (a ∷ p) [] ≡ a ∷ p
  unfolding sum
  sum_cons_nil a p = refl

  pub sum_cons : (a b : F) (p q : List F) → sum K (a ∷ p) (b ∷ q) ≡ (a + b) ∷ sum K p q
  unfolding sum
  sum_cons a b p q = refl

  pub scaled_nil : (a : F) → scaled K a [] ≡ []
  unfolding scaled
  scaled_nil a = refl

  pub scaled_cons : (a b : F) (q : List F) → scaled K a (b ∷ q) ≡ a * b ∷ scaled K a q
  unfolding scaled
  scaled_cons a b q = refl

  pub product_nil : (q : List F) → product K [] q ≡ []
  unfolding product
  product_nil q = refl

  pub product_cons : (a : F) (p q : List F) → product K (a ∷ p) q ≡ sum K (scaled K a q) (𝟘 ∷ product K p q)
  unfolding product
  product_cons a p q = refl

  pub value_nil : (x : F) → value K [] x ≡ 𝟘
  unfolding value
  value_nil x = refl

  pub value_cons : (a : F) (p : List F) (x : F) → value K (a ∷ p) x ≡ a + x * value K p x
  unfolding value
  value_cons a p x = refl

  pub linear_is : (r : F) → linear K r ≡ r ∷ 𝟙 ∷ []
  unfolding linear
  linear_is r = refl

module _ {F : Type 0} (K : Arithmetic F) (laws : Laws K) where
  open K use {one as 𝟙, times as ◌*◌}

  infixl 70 ◌*◌
  -- the powers that the code uses, as products
  pub power_1 : (x : F) → power K x 1 ≡ x
  unfolding power
  power_1 x = (laws.times_comm x 𝟙 ∙ laws.one_times x)

  pub power_2 : (x : F) → power K x 2 ≡ x * x
  unfolding power
  power_2 x = ap (λ y. x * y) ((laws.times_comm x 𝟙 ∙ laws.one_times x))

  pub power_3 : (x : F) → power K x 3 ≡ x * (x * x)
  unfolding power
  power_3 x = ap (λ y. x * (x * y)) ((laws.times_comm x 𝟙 ∙ laws.one_times x))

pub ruleset clauses = (length_cons, power_zero, power_suc, sum_nil, sum_cons_nil, sum_cons, scaled_nil, scaled_cons, product_nil, product_cons, value_nil, value_cons, linear_is)

pub ruleset powers = (power_zero, power_1, power_2, power_3)
