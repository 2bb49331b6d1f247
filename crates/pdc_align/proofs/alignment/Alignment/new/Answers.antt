use Rattle.std.specs.Prelude.{[], ◌≡◌}
use Rattle.std.proofs.lemmas.Result.{IfOk-weaker}
use Rattle.pdc_arrival.specs.pdc_row.declared.output.Output.{Output}
use Rattle.pdc_align.specs.Align.{AlignmentView, HasSizes, StandsFor, given_by}
use Rattle.pdc_align.specs.Calls.{first_of_plan}
use Rattle.pdc_align.proofs.Follows.{begins, first_sizes}
use Rattle.pdc_align.proofs.alignment.Alignment.new.Goals as goal

pub returns-clause-stands : goal.returns-clause-stands
returns-clause-stands g c =
    IfOk-weaker c.first.result
    (λ (a : AlignmentView). a.state ≡ first_of_plan c.args.plan c.args.start c.args.floor c.args.counts.now c.args.now)
    (λ (a : AlignmentView). (output : Output) → StandsFor (given_by c.args.plan output c.args.start c.args.floor c.args.counts.now c.args.now) [] a.state)
    (λ a h output. begins c.args.plan output c.args.start c.args.floor c.args.counts.now c.args.now a.state h) c.first.ensures.state

pub returns-clause-sizes : goal.returns-clause-sizes
returns-clause-sizes g c =
    IfOk-weaker c.first.result
    (λ (a : AlignmentView). a.state ≡ first_of_plan c.args.plan c.args.start c.args.floor c.args.counts.now c.args.now)
    (λ (a : AlignmentView). HasSizes c.args.plan.columns c.args.plan.lanes a.state)
    (λ a h. first_sizes c.args.plan c.args.start c.args.floor c.args.counts.now c.args.now a.state h) c.first.ensures.state
