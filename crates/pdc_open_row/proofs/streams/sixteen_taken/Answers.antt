use Rattle.std.proofs.Common.{arith}
use Rattle.pdc_open_row.proofs.TakenParts.{taken_parts}
use Rattle.pdc_open_row.proofs.streams.sixteen_taken.Goals as goal

pub returns : goal.returns
returns c =
    taken_parts 8 c.eight_taken.result c.eight_taken-2.result c.args.required.now c.args.taken.now c.split_at.result.0.now c.split_at-2.result.0.now c.split_at.result.1.now c.split_at-2.result.1.now
    (omega (arith, c.requires.required)) (omega (arith, c.requires.taken))
    c.split_at.ensures.front c.split_at-2.ensures.front c.split_at.ensures.back c.split_at-2.ensures.back c.eight_taken.ensures c.eight_taken-2.ensures
