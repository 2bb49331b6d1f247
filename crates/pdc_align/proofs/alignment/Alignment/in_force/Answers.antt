use Rattle.std.proofs.Common.{ap, get_or, ◌∙◌}
use Rattle.std.proofs.lemmas.List.{get_or_read}
use Rattle.pdc_align.specs.Align.{AlignmentView, ColumnState}
use Rattle.pdc_align.specs.Calls.{no_column}
use Rattle.pdc_align.proofs.Follows.{column_at}
use Rattle.pdc_align.proofs.alignment.Alignment.in_force.Goals as goal

pub returns-clause-state : goal.returns-clause-state
returns-clause-state g c =
    c.in_force.ensures
    ∙ ap (λ (x : ColumnState). x.in_force)
    (get_or_read c.args.self.now.state.columns c.args.column c.item.result.now c.requires
    (c.item.ensures ∙ ap (λ (a : AlignmentView). get_or a.state.columns c.args.column c.item.result.now) c.self.view_is) no_column)

pub returns-clause-life : goal.returns-clause-life
returns-clause-life g c life E stands =
    c.in_force.ensures
    ∙ ap (λ (x : ColumnState). x.in_force)
    (c.item.ensures
    ∙ ap (λ (a : AlignmentView). get_or a.state.columns c.args.column c.item.result.now) c.self.view_is
    ∙ column_at life E c.args.self.now.state c.args.column c.item.result.now stands c.requires)
