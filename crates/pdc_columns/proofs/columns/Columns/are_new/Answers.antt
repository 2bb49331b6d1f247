use Rattle.pdc_columns.proofs.ColumnParts.{all_new}
use Rattle.std.proofs.lemmas.Bool.{not-true}
use Rattle.pdc_columns.proofs.columns.Columns.are_new.Goals as goal

pub returns-then-not-held : goal.returns-then-not-held
returns-then-not-held c = λ e. all_new c.args.self.now c.self.inside.held c.in-Some.held c.self.inside.first.value.blocks c.self.inside.second.value c.self.view_is c.in-Some.ensures c.self.invariant.first c.self.invariant.second (not-true c.in-Some.held.first c.if-not-held.true) (not-true c.in-Some.held.second e)
