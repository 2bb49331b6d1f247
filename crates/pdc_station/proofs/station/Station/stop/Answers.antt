use Rattle.std.proofs.Common.{◌∙◌, ap}
use Rattle.pdc_station.proofs.Names.{mark_in, with_next_start}
use Rattle.pdc_station.proofs.station.Station.stop.Goals as goal

pub returns-clause-stops : goal.returns-clause-stops
returns-clause-stops g c = record {
  due = c.next_instant-due.result;
  waiting = c.waiting-waiting.result;
  waits = λ h E stands. (c.next_instant-due.ensures.answer h E stands, c.waiting-waiting.ensures h E stands);
  mark = c.begin.ensures.mark ∙ ap with_next_start c.stop_publisher.ensures.stored;
  left = mark_in c.stop_publisher.new.publisher;
  falls = c.stop_publisher.ensures.stops;
  begins = c.begin.ensures.mark;
}
