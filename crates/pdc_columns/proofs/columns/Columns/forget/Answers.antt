use Rattle.pdc_columns.proofs.ColumnParts.{one_dropped, placed}
use Rattle.pdc_columns.proofs.columns.Columns.forget.Goals as goal

pub set-requires : goal.set-requires
set-requires c = placed c.args.self.now c.self.inside.held c.self.inside.first.value.blocks c.self.inside.second.value c.args.column c.self.view_is c.self.invariant.first c.self.invariant.second c.requires

pub returns : goal.returns
returns c =
    one_dropped c.args.self.now c.self.inside.held c.set.new.self c.self.inside.first.value.blocks c.self.inside.second.value c.args.column c.self.view_is c.set.ensures
    (placed c.args.self.now c.self.inside.held c.self.inside.first.value.blocks c.self.inside.second.value c.args.column c.self.view_is c.self.invariant.first c.self.invariant.second c.requires) c.self.invariant.first c.self.invariant.second
