use Rattle.pdc_align.specs.Align.{given_by}
use Rattle.pdc_merge.proofs.Lives.{begins}
use Rattle.pdc_merge.proofs.merger.Merger.open.Goals as goal

pub returns-clause-stands : goal.returns-clause-stands
returns-clause-stands g c =
    begins c.args.settings c.args.start c.args.floor c.args.counts.now c.args.now
    (given_by c.plan_of.result c.args.settings.output c.args.start c.args.floor c.args.counts.now c.args.now) c.in_ok-alignment.alignment.state c.new-2.result c.new-3.result
    c.in_ok-alignment.alignment.memory c.in_ok-alignment.alignment.disagreements c.in_ok-alignment.alignment.popped
    (c.plan_of.ensures.given c.args.start c.args.floor c.args.counts.now c.args.now) (c.in_ok-alignment.ensures.stands c.args.settings.output) c.new-2.ensures c.new-3.ensures
