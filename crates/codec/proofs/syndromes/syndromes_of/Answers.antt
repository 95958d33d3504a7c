use Rattle.std.proofs.Common.{ap, ◌∙◌, arith}
use Rattle.galois.specs.Field.{power}
use Rattle.galois.specs.Roots.{cubic_at}
use Rattle.codec.proofs.syndromes.syndromes_of.Goals as goal

pub returns : goal.returns
unfolding power
returns g c =
    let K = g.F.Field.field in
    let by = K.times K.alpha in
    let at = cubic_at K c.remainder_of-r.result in
    let remains = c.remainder_of-r.ensures in
    let e0 = c.one-one.ensures in
    let e1 = c.times_alpha-alpha.ensures ∙ ap by e0 in
    let e2 = c.times_alpha-square.ensures ∙ ap by e1 in
    let e3 = c.times_alpha-cube.ensures ∙ ap by e2 in
    let s0 = c.value_at.ensures ∙ ap at e0 ∙ remains 0 (omega arith) in
    let s1 = c.value_at-2.ensures ∙ ap at e1 ∙ remains 1 (omega arith) in
    let s2 = c.value_at-3.ensures ∙ ap at e2 ∙ remains 2 (omega arith) in
    let s3 = c.value_at-4.ensures ∙ ap at e3 ∙ remains 3 (omega arith) in
    λ i. record { s0 = s0 i; s1 = s1 i; s2 = s2 i; s3 = s3 i }
