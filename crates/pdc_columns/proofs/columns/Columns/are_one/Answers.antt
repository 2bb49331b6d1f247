use Rattle.std.proofs.Common.{not, refl}
use Rattle.pdc_columns.proofs.ColumnParts.{none_disagree_once, or_last}
use Rattle.pdc_columns.proofs.columns.Columns.are_one.Goals as goal

pub returns-then-held : goal.returns-then-held
returns-then-held c = λ shapes e. none_disagree_once shapes c.args.self.now c.self.inside.held c.in-Some.held c.self.inside.first.value.blocks c.self.inside.second.value c.self.view_is c.in-Some.ensures (rw e refl)

pub returns-else-held : goal.returns-else-held
returns-else-held c = λ shapes e. none_disagree_once shapes c.args.self.now c.self.inside.held c.in-Some.held c.self.inside.first.value.blocks c.self.inside.second.value c.self.view_is c.in-Some.ensures (or_last c.in-Some.held.alike (not c.in-Some.held.second) e)
