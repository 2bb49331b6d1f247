use Rattle.pdc_align.proofs.ClosingTicks.{tick_is_tick}
use Rattle.pdc_align.proofs.closing_laws.tick_is_tick.Goals as goal

pub returns : goal.returns
returns c g E now counts h = tick_is_tick c.numbers_rise.ensures g E now counts h
