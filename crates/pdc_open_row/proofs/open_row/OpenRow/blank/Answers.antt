use Rattle.std.proofs.Common.{◌∙◌, ap}
use Rattle.pdc_columns.specs.Taking.{any_second}
use Rattle.pdc_columns.proofs.ColumnParts.{none_replicated}
use Rattle.pdc_open_row.proofs.open_row.OpenRow.blank.Goals as goal

pub invariant_of-result : goal.invariant_of-result
invariant_of-result c = λ e. ap any_second c.in_ok-blank.ensures.columns ∙ none_replicated c.args.places.columns
