use Rattle.std.proofs.Common.{◌∙◌, ap}
use Rattle.pdc_life.specs.declared.outcome.Outcome.{Outcome}
use Rattle.pdc_arrival.specs.Counts.{after_answer, counts_after}
use Rattle.pdc_arrival.proofs.Counting.{counted_more}
use Rattle.pdc_arrival.proofs.counts.Counts.count.Goals as goal

pub returns-clause-life : goal.returns-clause-life
returns-clause-life c E s bytes arrival answer before same =
    c.add.ensures ∙ ap (after_answer c.args.outcome) before ∙ ap (λ (o : Outcome). after_answer o (counts_after E)) same
    ∙ counted_more E s bytes arrival answer.cells answer.outcome
