use Rattle.std.proofs.Common.{rules, arith, ◌≤◌, length}
use Rattle.std.specs.Fmt.{decimal}
use Rattle.std.proofs.lemmas.Fmt.{decimal_nonempty, length-decimal-le}
use Rattle.pdc_show.proofs.text.write_number.Goals as goal

pub write_digits-requires : goal.write_digits-requires
write_digits-requires c =
    let short : length (decimal c.from.result) ≤ 5 = length-decimal-le 5 c.from.result (omega arith) (omega arith) (omega arith) in
    (omega (arith, short), search rules)

pub returns-clause-low : goal.returns-clause-low
returns-clause-low c =
    let short : length (decimal c.from.result) ≤ 5 = length-decimal-le 5 c.from.result (omega arith) (omega arith) (omega arith) in
    omega (arith, short, c.write_digits.ensures.start)

pub returns-clause-high : goal.returns-clause-high
returns-clause-high c = omega (arith, decimal_nonempty c.from.result (omega arith), c.write_digits.ensures.start)
