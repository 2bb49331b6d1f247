use Rattle.pdc_align.proofs.Arrivals.{take_is_take}
use Rattle.pdc_align.proofs.state_laws.take_is_take.Goals as goal

pub returns : goal.returns
returns c g E s i quality bytes payload cells run =
    take_is_take c.numbers_rise.ensures c.blocks_stand_in_their_columns.ensures c.taken_is_in_time.ensures.common g E s i quality bytes payload cells run
