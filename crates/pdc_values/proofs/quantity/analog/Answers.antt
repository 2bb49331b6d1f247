use Rattle.std.proofs.Common.{rules, arith, FitsSigned, w64, ◌*ℤ◌}
use Rattle.std.proofs.lemmas.Int.{ints, to_z-of_z, fits_signed_mul}
use Rattle.pdc_values.proofs.quantity.analog.Goals as goal

pub returns : goal.returns
returns c =
    let factor = c.ranges.factor in
    let small : FitsSigned w64 c.signed.result = search rules in
    let wide : FitsSigned w64 c.from.result = search rules in
    let product : FitsSigned w64 (c.signed.result *ℤ c.from.result) =
    fits_signed_mul w64 c.signed.result c.from.result 32768 2147483648 c.signed.ensures.small (omega (arith, ints)) (omega arith) in
    grind (arith, to_z-of_z)
