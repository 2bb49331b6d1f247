use Rattle.std.proofs.Common.{arith}
use Rattle.std.proofs.lemmas.Grind.{common_steps}
use Rattle.pdc_columns.proofs.RowSteps.{disagreements_step}
use Rattle.pdc_columns.proofs.columns.Columns.disagreements.Goals as goal

pub loop-place-preserved : goal.loop-place-preserved
loop-place-preserved c = grind (arith, common_steps, disagreements_step)
