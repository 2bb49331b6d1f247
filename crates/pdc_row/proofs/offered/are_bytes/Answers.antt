use Rattle.std.proofs.Common.{arith}
use Rattle.pdc_row.proofs.offered.are_bytes.Goals as goal

pub returns : goal.returns
returns c = λ k. omega (arith, c.type_inv.bytes k)
