use Rattle.std.proofs.Common.{arith}
use Rattle.pdc_life.specs.Life.{section_in_force}
use Rattle.pdc_plain_steps.specs.Views.{given_view, life_view}
use Rattle.pdc_plain_steps.proofs.Ranges.{one_more}
use Rattle.pdc_plain_steps.proofs.in_force.sections_in_force.Goals as goal

pub loop-column-preserved : goal.loop-column-preserved
loop-column-preserved c = record {
  few = omega (arith, c.push_some.ensures.grown, c.loop-column.invariant.few);
  all = one_more (section_in_force (given_view c.args.given.now) (life_view c.args.life.now)) c.loop-column.column c.args.given.now.columns _ _ _ _ (omega arith) c.section_in_force.ensures c.push_some.ensures.sections c.loop-column.invariant.all;
}
