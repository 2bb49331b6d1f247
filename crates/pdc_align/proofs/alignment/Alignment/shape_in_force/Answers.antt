use Rattle.std.proofs.Common.{ap, get_or, ◌∙◌}
use Rattle.pdc_align.specs.Align.{AlignmentView, ColumnState}
use Rattle.pdc_align.proofs.Follows.{column_at}
use Rattle.pdc_align.proofs.alignment.Alignment.shape_in_force.Goals as goal
use Rattle.pdc_align.specs.State.{shape_in}

pub returns : goal.returns
returns g c life E stands =
    c.shape.ensures
    ∙ ap (λ (x : ColumnState). shape_in x.in_force)
    (c.item.ensures
    ∙ ap (λ (a : AlignmentView). get_or a.state.columns c.args.column c.item.result.now) c.self.view_is
    ∙ column_at life E c.args.self.now.state c.args.column c.item.result.now stands c.requires)
