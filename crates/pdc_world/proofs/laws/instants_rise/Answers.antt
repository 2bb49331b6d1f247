use Rattle.pdc_world.proofs.HeadlineNames.{InstantsRise, rows_of, RowsAreSentData, seen_of}
use Rattle.pdc_world.proofs.{Rising.{instants_rise_in, rise}, Rows.{rows_are_sent_in, sent_data}, Worlds.{of_world}}
use Rattle.pdc_world.proofs.laws.instants_rise.Goals as goal

pub returns-clause-rise : goal.returns-clause-rise
returns-clause-rise g c =
    rise (rows_of c.args.world.now) (of_world (λ seen rows. InstantsRise rows) c.args.world.now (instants_rise_in c.instants_rise.ensures) c.holds_some_history.ensures)

pub returns-clause-sent : goal.returns-clause-sent
returns-clause-sent g c =
    sent_data c.instant_is_nearest.ensures.computed (seen_of c.args.world.now) (rows_of c.args.world.now)
    (of_world RowsAreSentData c.args.world.now (rows_are_sent_in c.stamps_have_one_layout.ensures.published) c.holds_some_history.ensures)
