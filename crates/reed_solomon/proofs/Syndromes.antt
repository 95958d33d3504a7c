-- The syndromes of a coded word are zero.
use mathlib.Core.Path.{◌≡◌}
use mathlib.Core.List.{List}
use Prim.Native.Nat.{ℕ, zero, suc, ◌<◌}
use native.Mathlib.Omega.{arith}
use Rattle.galois.specs.Field.{Arithmetic, Laws, power}
use Rattle.reed_solomon.specs.Polynomial.{value}
use Rattle.reed_solomon.specs.Code.{generator, Coded, syndrome}
use Rattle.reed_solomon.proofs.Ring.{ring}
use Rattle.reed_solomon.proofs.Values.{value_product, value_linear}

module _ {F : Type 0} (K : Arithmetic F) (laws : Laws K) where
  open K use {zero as 𝟘, plus as ◌+◌, times as ◌*◌, alpha as α}

  infixl 60 ◌+◌
  infixl 70 ◌*◌
  value_generator : (x : F) → value K (generator K) x ≡ (x + power K α 0) * (x + power K α 1) * (x + power K α 2) * (x + power K α 3)
  unfolding generator
  value_generator x = simp (value_product, value_linear)

  generator_root : (k : ℕ) → k < 4 → value K (generator K) (power K α k) ≡ 𝟘
  generator_root zero h = simp (value_generator, ring)
  generator_root (suc zero) h = simp (value_generator, ring)
  generator_root (suc (suc zero)) h = simp (value_generator, ring)
  generator_root (suc (suc (suc zero))) h = simp (value_generator, ring)
  generator_root (suc (suc (suc (suc k)))) h = absurd (omega arith)

  pub coded_syndrome : (n : ℕ) (w : List F) → Coded K n w → (k : ℕ) → k < 4 → syndrome K w k ≡ 𝟘
  unfolding syndrome
  coded_syndrome n w c k h = rw (← c.divides) (simp (value_product, generator_root k h, ring))
