use Rattle.std.proofs.Common.{arith}
use Rattle.std.proofs.lemmas.Grind.{common_steps}
use Rattle.pdc_open_row.proofs.TakenParts.{taken_step}
use Rattle.pdc_open_row.proofs.streams.each_taken.Goals as goal

pub loop-stream-preserved : goal.loop-stream-preserved
loop-stream-preserved c = grind (arith, common_steps, taken_step)
