use Rattle.std.proofs.Common.{arith, rules, ℕ, ◌<◌, ◌≤◌, ◌^◌, length}
use Rattle.std.specs.Fmt.{decimal}
use Rattle.std.proofs.lemmas.Fmt.{length-decimal-le}
use Rattle.pdc_values.proofs.scaled.write_count.Goals as goal

-- at most twenty digits
short : (count : ℕ) → count < 2 ^ 64 → length (decimal count) ≤ 20
short count fits = length-decimal-le 20 count (omega arith) (omega arith) (omega arith)

pub write_digits-requires : goal.write_digits-requires
write_digits-requires c = (omega (arith, short c.args.count c.ranges.count.fits), search rules)

pub returns-clause-room : goal.returns-clause-room
returns-clause-room c = omega (arith, short c.args.count c.ranges.count.fits, c.write_digits.ensures.start)
