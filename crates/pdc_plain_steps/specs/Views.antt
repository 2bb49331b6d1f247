-- What contracts see of what is given, of steps, of their answers and of what was taken, wherever they lie in memory.
use Rattle.std.specs.Prelude.{ℕ, ◌<◌, List, map, option_map}
use Rattle.pdc_row.specs.CellView.{CellView, cell_view}
use Rattle.pdc_row.specs.RowView.{row_view}
use Rattle.pdc_plain_steps.specs.declared.given.Given.{Given as GivenData}
use Rattle.pdc_plain_steps.specs.declared.taking.Take.{Take as TakeData}
use Rattle.pdc_plain_steps.specs.declared.steps.LifeStep.{LifeStep}
use Rattle.pdc_plain_steps.specs.declared.steps.LifeStep.TheVariants as step
use Rattle.pdc_plain_steps.specs.declared.steps.Answer.{Answer as AnswerData}
use Rattle.pdc_plain_steps.specs.declared.steps.TickAnswer.{TickAnswer as TickData}
use Rattle.pdc_plain_steps.specs.declared.steps.ColumnCell.{ColumnCell}
use Rattle.pdc_plain_steps.specs.declared.steps.Answered.{Answered}
use Rattle.pdc_plain_steps.specs.declared.steps.Answered.TheVariants as answered
use Rattle.pdc_arrival.specs.Views.{arrival_view}
use Rattle.pdc_life.specs.Given.{Given}
use Rattle.pdc_life.specs.Life.{Answer, TickAnswer, Entry, Arrive, Tick, Pop, Take}
use Rattle.pdc_life.specs.Answer.{Step, Arrives, Ticks, Pops}

abbrev pub given_view : GivenData → Given
given_view g = record {
  output = g.output;
  wait = g.wait;
  wait_kind = g.wait_kind;
  window = g.window;
  ahead = g.ahead;
  columns = g.columns;
  lanes = g.lanes;
  start = g.start;
  floor = g.floor;
  counts = g.counts;
  opening = g.opening;
}

abbrev pub step_view : LifeStep → Step
step_view (step.Arrive stream bytes) = Arrives stream bytes.now
step_view (step.Tick now counts) = Ticks now counts
step_view step.Pop = Pops

-- what arrives is for one of so many streams
abbrev pub IsForStream : (streams : ℕ) → Step → Type 0
IsForStream streams (Arrives stream bytes) = stream < streams
IsForStream streams step = Unit {0}

-- a cell, and with its column
abbrev pub cell_at : ColumnCell → CellView
cell_at c = cell_view c.block c.quality

abbrev pub part_view : ColumnCell → ℕ × CellView
part_view c = (c.column, cell_at c)

abbrev pub answer_view : AnswerData → Answer
answer_view a = record { outcome = a.outcome; cells = map part_view a.cells.items }

abbrev pub tick_view : TickData → TickAnswer
tick_view t = record { rows = map row_view t.rows.items; adopted = t.adopted.items; used_up = t.used_up }

abbrev pub entry_view : Answered → Entry
entry_view (answered.Arrival stream bytes arrival answer) = Arrive stream bytes.now (arrival_view arrival) (answer_view answer)
entry_view (answered.Tick now counts answer) = Tick now counts (tick_view answer)
entry_view (answered.Pop row) = Pop (option_map row_view row)

-- the life that is kept newest first
abbrev pub life_view : List Answered → List Entry
life_view entries = map entry_view entries

abbrev pub take_view : TakeData → Take
take_view t = record { stream = t.stream; instant = t.instant; cells = map part_view t.cells.now }
