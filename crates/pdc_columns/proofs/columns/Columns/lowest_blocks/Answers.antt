use Rattle.pdc_columns.proofs.Lent.{many_lent, seen_lent}
use Rattle.pdc_columns.proofs.Twins.{firsts_held, seconds_held}
use Rattle.pdc_columns.proofs.WholeRows.{not_other}
use Rattle.pdc_columns.proofs.columns.Columns.lowest_blocks.Goals as goal

pub returns-then-held : goal.returns-then-held
returns-then-held c =
    firsts_held c.self.inside.held c.in-Some.held c.get.result.now.blocks c.self.inside.second.value c.args.self.now (seen_lent _ _ _ _ _ c.get.ensures c.self.view_is) c.in-Some.ensures (many_lent _ _ _ c.get.ensures c.self.invariant.first) c.self.invariant.second c.if-held.true

pub returns : goal.returns
returns c =
    seconds_held c.self.inside.held c.in-Some.held c.get-2.result.now.blocks c.self.inside.second.value c.args.self.now (seen_lent _ _ _ _ _ c.get-2.ensures c.self.view_is) c.in-Some.ensures (many_lent _ _ _ c.get-2.ensures c.self.invariant.first) c.self.invariant.second c.if-held.false
    (not_other c.in-Some.held.second c.if-not-held.false) (not_other c.in-Some.held.alike c.if-not-held-2.false)
