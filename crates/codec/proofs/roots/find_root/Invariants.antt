use Rattle.std.proofs.Common.{◌≡◌}
use Rattle.codec.specs.declared.roots.Trinomial.{Trinomial}
use Rattle.codec.specs.Steps.{NoRoot, Terms}
use Rattle.codec.proofs.roots.find_root.Given as goal

abbrev pub invariant-loop : goal.invariant-loop
invariant-loop g l =
    let K = g.F.Field.field in
    (l.here.exponent ≡ l.counter)
    × ((t : Trinomial g.row.F.Denot) → Terms K t l.initial.here.value l.initial.terms →
    Terms K t l.here.value l.terms × NoRoot K t l.initial.here.exponent l.here.exponent)
