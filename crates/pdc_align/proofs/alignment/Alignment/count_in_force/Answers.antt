use Rattle.std.proofs.Common.{ap, get_or, ◌∙◌}
use Rattle.std.proofs.lemmas.List.{get_or_read}
use Rattle.pdc_align.specs.Align.{AlignmentView, ColumnState}
use Rattle.pdc_align.specs.Calls.{no_column}
use Rattle.pdc_align.specs.Slot.{count_in}
use Rattle.pdc_align.proofs.alignment.Alignment.count_in_force.Goals as goal

pub returns : goal.returns
returns g c =
    c.count.ensures
    ∙ ap (λ (x : ColumnState). count_in x.in_force)
    (get_or_read c.args.self.now.state.columns c.args.column c.item.result.now c.requires
    (c.item.ensures ∙ ap (λ (a : AlignmentView). get_or a.state.columns c.args.column c.item.result.now) c.self.view_is) no_column)
