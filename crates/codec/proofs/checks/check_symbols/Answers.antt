use Rattle.std.proofs.Common.{length, refl, arith}
use Rattle.codec.specs.Check.{DataLength}
use Rattle.codec.proofs.Dividing.{checks}
use Rattle.codec.proofs.checks.check_symbols.Goals as goal

pub returns : goal.returns
returns g c =
    let K = g.F.Field.field in
    let size : DataLength K (length c.args.symbols.now) = record { some = omega arith; fits = omega (arith, c.order.ensures, c.order-else-order-lt4.ensures) } in
    (size, checks K g.met.F.Field.laws c.args.symbols.now c.remainder_with_zeros.result size (c.remainder_with_zeros.ensures K.zero refl))
