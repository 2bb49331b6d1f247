use Rattle.std.proofs.Common.{arith}
use Rattle.pdc_frame.proofs.buffer.push_each.Goals as goal

pub push_reserved-requires : goal.push_reserved-requires
push_reserved-requires g c = omega (arith, c.loop-byte.invariant.len, c.loop-byte.invariant.capacity, c.args.out.now.ok.0, c.requires)
