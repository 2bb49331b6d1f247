use Rattle.std.proofs.Common.{◌∙◌, ap, length}
use Rattle.pdc_columns.specs.Taking.{any_second}
use Rattle.pdc_columns.proofs.ColumnParts.{none_replicated}
use Rattle.pdc_open_row.proofs.open_row.OpenRow.begin.Goals as goal

pub invariant_of-self : goal.invariant_of-self
invariant_of-self c = λ e. ap any_second c.forget_all.ensures ∙ none_replicated (length c.self.inside.columns)
