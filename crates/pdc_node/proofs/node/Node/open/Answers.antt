use Rattle.std.proofs.Common.{◌∙◌}
use Rattle.pdc_align.specs.Align.{given_by}
use Rattle.pdc_node.proofs.Lives.{begins}
use Rattle.pdc_node.proofs.node.Node.open.Goals as goal

pub invariant_of-result : goal.invariant_of-result
invariant_of-result g c = record {
  column_count = c.in_ok-alignment.ensures.sizes.column_count ∙ c.plan_of.ensures.columns;
  lane_count = c.in_ok-alignment.ensures.sizes.lane_count ∙ c.plan_of.ensures.lanes;
  each_column = c.in_ok-alignment.ensures.sizes.each_column ∙ c.plan_of.ensures.columns;
}

pub returns-clause-stands : goal.returns-clause-stands
returns-clause-stands g c =
    begins c.args.settings c.args.start c.args.floor c.args.counts.now c.args.now
    (given_by c.plan_of.result c.args.settings.output c.args.start c.args.floor c.args.counts.now c.args.now) c.in_ok-alignment.alignment.state c.new-2.result c.in_ok-alignment.alignment.memory c.in_ok-alignment.alignment.popped
    (c.plan_of.ensures.given c.args.start c.args.floor c.args.counts.now c.args.now) (c.in_ok-alignment.ensures.stands c.args.settings.output) c.new-2.ensures
