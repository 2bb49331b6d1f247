use Rattle.std.proofs.Common.{◌∙◌, ℕ, ap, slice_index_or}
use Rattle.pdc_arrival.proofs.Counting.{shows_cause}
use Rattle.pdc_arrival.proofs.counts.Counts.refused_as.Goals as goal

pub returns-clause-life : goal.returns-clause-life
returns-clause-life c E e =
    ap (λ (number : ℕ). slice_index_or c.args.self.now.causes number 0) c.number.ensures.number ∙ shows_cause E c.args.self.now c.args.refusal e
