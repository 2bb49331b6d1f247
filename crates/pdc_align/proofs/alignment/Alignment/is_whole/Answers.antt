use Rattle.std.proofs.Common.{◌∙◌, ap}
use Rattle.pdc_table.specs.Steps.{whole_answer}
use Rattle.pdc_align.specs.Align.{State}
use Rattle.pdc_align.proofs.ClosingRows.{whole_is}
use Rattle.pdc_align.proofs.alignment.Alignment.is_whole.Goals as goal

pub returns : goal.returns
returns g c life E stands = c.has_whole_row.ensures ∙ ap (λ (b : State). whole_answer b.content) stands.same ∙ whole_is life E
