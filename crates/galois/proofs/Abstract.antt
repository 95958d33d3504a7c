-- What the laws give in every field.
use Rattle.std.proofs.Common.{◌≡◌, sym, ap, ◌∙◌}
use Rattle.galois.specs.Field.{Arithmetic, Laws}

module _ {F : Type 0} {k : Arithmetic F} (m : Laws k) where
  pub plus_zero : (x : F) → k.plus x k.zero ≡ x
  plus_zero x = m.plus_comm x k.zero ∙ m.zero_plus x

  -- two elements whose sum is zero are the same
  pub same_of_sum : (x y : F) → k.plus x y ≡ k.zero → x ≡ y
  same_of_sum x y e =
      sym (plus_zero x) ∙ ap (k.plus x) (sym e) ∙ sym (m.plus_assoc x x y) ∙ ap (λ (z : F). k.plus z y) (m.plus_self x) ∙ m.zero_plus y
