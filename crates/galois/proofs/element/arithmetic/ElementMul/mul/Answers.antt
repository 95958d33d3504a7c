use Rattle.std.proofs.Common.{◌∙◌, inl, inr, arith}
use Rattle.galois.proofs.Numbered.{product_is, product_zero}
use Rattle.galois.proofs.element.arithmetic.ElementMul.mul.Goals as goal
use Rattle.galois.proofs.element.arithmetic.ElementMul.mul.Goals.{in_default-via-in-Some+in_default, in_default-via-in_default}

pub returns-in-Some-Some : goal.returns-in-Some-Some
returns-in-Some-Some g c =
    c.power.ensures ∙ product_is g.bound-1-met.tabled c.args.self c.args.rhs _ _ c.in-Some-Some.ensures.0 c.in-Some-Some.ensures'.0

pub returns-in_default : goal.returns-in_default
returns-in_default g c =
    c.of.ensures ∙ product_zero g.bound-1-met.tabled c.args.self c.args.rhs
    (elim c.in_default.branch [ in_default-via-in-Some+in_default w ↦ inr w.in_default.ensures' | in_default-via-in_default w ↦ inl (grind arith) ])
