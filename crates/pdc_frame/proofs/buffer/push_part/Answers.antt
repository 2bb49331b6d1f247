use Rattle.std.proofs.Common.{arith}
use Rattle.pdc_frame.proofs.buffer.push_part.Goals as goal

pub first_chunk-requires : goal.first_chunk-requires
first_chunk-requires g c = omega (arith, c.requires.small)
