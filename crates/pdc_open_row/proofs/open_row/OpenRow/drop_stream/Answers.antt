use Rattle.std.proofs.Common.{◌∙◌, ap}
use Rattle.pdc_columns.specs.Taking.{any_second}
use Rattle.pdc_columns.proofs.ColumnParts.{none_mapped, none_set}
use Rattle.pdc_open_row.proofs.open_row.OpenRow.drop_stream.Goals as goal

pub invariant_of-self : goal.invariant_of-self
invariant_of-self c = λ e. ap any_second c.forget.ensures ∙ none_set c.self.inside.columns c.args.stream (c.self.invariant e)

pub invariant_of-self-else-lanes-eq1 : goal.invariant_of-self-else-lanes-eq1
invariant_of-self-else-lanes-eq1 c = λ e. ap any_second c.forget_lane.ensures ∙ none_mapped c.args.stream c.self.inside.columns (c.self.invariant e)
