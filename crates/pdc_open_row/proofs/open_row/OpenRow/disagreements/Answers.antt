use Rattle.std.proofs.Common.{◌∙◌, ap, sym}
use Rattle.pdc_columns.proofs.ColumnParts.{none_disagree}
use Rattle.pdc_columns.specs.Chosen.{disagreements_of}
use Rattle.pdc_open_row.specs.Views.{OpenRowView}
use Rattle.pdc_open_row.proofs.open_row.OpenRow.disagreements.Goals as goal

pub returns-then-not-self-clause-value : goal.returns-then-not-self-clause-value
returns-then-not-self-clause-value c =
    sym (none_disagree c.args.layout.now.shapes.items c.self.inside.columns (c.self.invariant c.if-not-self.true))
    ∙ ap (λ (row : OpenRowView). disagreements_of c.args.layout.now.shapes.items row.columns) c.self.view_is
