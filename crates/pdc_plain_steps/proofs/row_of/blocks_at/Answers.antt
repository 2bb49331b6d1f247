use Rattle.std.proofs.Common.{arith}
use Rattle.pdc_life.specs.Life.{section_in_force}
use Rattle.pdc_life.specs.Row.{block_in, chosen_of}
use Rattle.pdc_plain_steps.specs.Views.{given_view, life_view}
use Rattle.pdc_plain_steps.proofs.Ranges.{one_more}
use Rattle.pdc_plain_steps.proofs.row_of.blocks_at.Goals as goal

pub loop-column-preserved : goal.loop-column-preserved
loop-column-preserved c =
    let g = given_view c.args.given.now in
    let E = life_view c.args.life.now in
    record {
      few = omega (arith, c.push_some.ensures.grown, c.loop-column.invariant.few);
      all = one_more (λ p. block_in (section_in_force g E p) (chosen_of g E p c.args.instant)) c.loop-column.column c.args.given.now.columns _ _ _ _ (omega arith) c.block_at.ensures c.push_some.ensures.blocks c.loop-column.invariant.all;
    }
