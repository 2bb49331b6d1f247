use Rattle.std.proofs.Common.{arith}
use Rattle.pdc_arrival.specs.pdc_life.Life.{section_in_force}
use Rattle.pdc_align.proofs.InOrder.{one_more}
use Rattle.pdc_align.proofs.in_force.sections_in_force.Goals as goal

pub loop-column-preserved : goal.loop-column-preserved
loop-column-preserved g c = record {
  few = omega (arith, c.push_some.ensures.grown, c.loop-column.invariant.few);
  all = λ h E stands. one_more (section_in_force h E) c.loop-column.column c.args.columns _ _ _ _ (omega arith) (c.in_force.ensures.life h E stands) c.push_some.ensures.sections (c.loop-column.invariant.all h E stands);
}
