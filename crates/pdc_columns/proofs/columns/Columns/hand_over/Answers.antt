use Rattle.pdc_columns.proofs.ColumnParts.{all_given}
use Rattle.pdc_columns.proofs.columns.Columns.hand_over.Goals as goal

pub returns-clause-some : goal.returns-clause-some
returns-clause-some c =
    all_given c.args.self.now c.self.inside.held c.exchange.new.held c.self.inside.first.value.blocks c.exchange.new.first.value.blocks c.self.inside.second.value
    c.self.view_is c.exchange.ensures.held c.self.invariant.first c.exchange.ensures.first c.self.invariant.second
