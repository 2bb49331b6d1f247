use Rattle.std.proofs.Common.{arith}
use Rattle.pdc_frame.proofs.writing.payload_len.Goals as goal

pub returns-clause-bytes : goal.returns-clause-bytes
returns-clause-bytes c = λ i. omega (arith, c.type_inv.payload i)
