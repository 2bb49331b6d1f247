use Rattle.std.proofs.Common.{sym, ◌∙◌}
use Rattle.pdc_life.specs.Views.{arrival_view}
use Rattle.pdc_history.proofs.Tellings.{read_is_told, told_is_read}
use Rattle.pdc_history.proofs.told.told_by.Goals as goal

pub returns-clause-found : goal.returns-clause-found
returns-clause-found c key x e =
    read_is_told c.args.settings.now c.args.pmu.now c.args.bytes.now (arrival_view 0 c.read_arrival.result) key x (c.read_arrival.ensures 0) (sym c.told_of.ensures ∙ e)

pub returns-clause-only : goal.returns-clause-only
returns-clause-only c key x tells =
    c.told_of.ensures
    ∙ told_is_read c.bytes_are_read_in_one_way.ensures c.args.settings.now c.args.pmu.now c.args.bytes.now (arrival_view 0 c.read_arrival.result) key x (c.read_arrival.ensures 0) tells
