use Rattle.std.proofs.Common.{◌∙◌, ap}
use Rattle.pdc_columns.specs.Taking.{any_second}
use Rattle.pdc_columns.proofs.ColumnParts.{none_set}
use Rattle.pdc_open_row.proofs.open_row.OpenRow.drop_column.Goals as goal

pub invariant_of-self : goal.invariant_of-self
invariant_of-self c = λ e. ap any_second c.forget.ensures ∙ none_set c.self.inside.columns c.args.column (c.self.invariant e)
