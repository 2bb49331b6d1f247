-- How the table of a concentrator follows its life, step by step.
use Rattle.std.specs.Prelude.{◌≡◌, ℕ, ◌+◌, ◌^◌, ◌<◌, List, [], ◌∷◌, length, nat_le, nat_lt, if◌then◌else◌}
use Rattle.std.specs.List.{AllByRecursion}
use Rattle.pdc_arrival.specs.pdc_row.CellView.{CellView}
use Rattle.pdc_table.specs.Content.{HaveLayoutShapes, IsPut}
use Rattle.pdc_table.specs.Steps.{after_pop, after_take, after_tick, closed_by, put_answer}
use Rattle.pdc_table.specs.pdc_open_row.declared.outcome.PutOutcome.{PutOutcome}
use Rattle.pdc_arrival.specs.pdc_life.declared.outcome.Outcome.{Outcome}
use Rattle.pdc_arrival.specs.pdc_life.declared.outcome.Outcome.TheVariants.{Refused, Taken}
use Rattle.pdc_arrival.specs.pdc_life.declared.outcome.Refusal.TheVariants.{Ahead, Conflict, Duplicate, Late, OutOfWindow}
use Rattle.pdc_arrival.specs.pdc_life.Answer.{outcome_in_time, pop_answer, tick_answer}
use Rattle.pdc_arrival.specs.pdc_life.Arrival.{Data}
use Rattle.pdc_arrival.specs.pdc_life.Given.{Given, streams_of}
use Rattle.pdc_arrival.specs.pdc_life.Life.{Entry, Arrive, Tick, Pop, last_of, now_of, take_at}
use Rattle.pdc_arrival.specs.pdc_life.Row.{rows_of}
use Rattle.pdc_arrival.specs.pdc_life.Run.{HaveColumns, IsRun}
use Rattle.pdc_align.specs.State.{after_adoptions, content_of, row_layout_of, rule_of}

-- The cells that a stream may give: their columns rise and exist, and with one lane they are of the stream's own.
pub record AreCells (g : Given) (s : ℕ) (cells : List (ℕ × CellView)) : Type 0 where
  pub stream : s < length (streams_of g)
  pub columns : HaveColumns g cells
  pub own : g.lanes ≡ 1 → AllByRecursion (λ (part : ℕ × CellView). part.0 ≡ s) cells

-- They may be put.
abbrev pub CellsArePut : Type 0
CellsArePut =
    (g : Given) (E : List Entry) (s : ℕ) (cells : List (ℕ × CellView)) → AreCells g s cells → IsPut (content_of g E) s cells

-- What the table answers is the end of what the life answers: Ahead stands between Late and the rest.
abbrev pub told_by : PutOutcome → Outcome
told_by PutOutcome.Taken = Taken
told_by PutOutcome.Late = Refused Late
told_by PutOutcome.OutOfWindow = Refused OutOfWindow
told_by PutOutcome.Duplicate = Refused Duplicate
told_by PutOutcome.Conflict = Refused Conflict

abbrev pub AnswersAgree : Type 0
AnswersAgree =
    (g : Given) (E : List Entry) (s i : ℕ) (cells : List (ℕ × CellView)) → IsPut (content_of g E) s cells →
    outcome_in_time g E s i cells
    ≡ (if nat_le i (last_of g E) then Refused Late
    else (if nat_lt (now_of g E + g.ahead) i then Refused Ahead else told_by (put_answer (content_of g E) s i cells)))

-- Data that is taken is a take of the table; whatever else arrives leaves the table as it was.
abbrev pub TakeIsTake : Type 0
TakeIsTake =
    (g : Given) (E : List Entry) (s i quality : ℕ) (bytes payload : List ℕ) (cells : List (ℕ × CellView)) →
    IsRun g (Arrive s bytes (Data i quality payload) (record { outcome = Taken; cells = cells }) ∷ E) →
    content_of g (Arrive s bytes (Data i quality payload) (record { outcome = Taken; cells = cells }) ∷ E)
    ≡ after_take (content_of g E) s i cells

abbrev pub IsArrival : Entry → Type 0
IsArrival (Arrive s bytes arrival answer) = Unit {0}
IsArrival e = ⊥

abbrev pub OthersLeaveIt : Type 0
OthersLeaveIt =
    (g : Given) (E : List Entry) (e : Entry) → IsArrival e → take_at e ≡ [] → content_of g (e ∷ E) ≡ content_of g E

-- The cells that the table holds have the shapes in force, as a tick asks for.
abbrev pub CellsHaveShapes : Type 0
CellsHaveShapes = (g : Given) (E : List Entry) → IsRun g E → HaveLayoutShapes (content_of g E) (row_layout_of g E)

-- The rows that the table closes at a tick are those of the life, where the wait is within the counter of a row's age,
abbrev pub RowsAreThose : Type 0
RowsAreThose =
    (g : Given) (E : List Entry) (now : ℕ) → g.wait < 2 ^ 64 →
    closed_by (content_of g E) (rule_of g.wait_kind g.wait now) (row_layout_of g E) ≡ rows_of g E now

-- and a tick of the concentrator is a tick of the table under the layout before it, and then the adoptions.
abbrev pub TickIsTick : Type 0
TickIsTick =
    (g : Given) (E : List Entry) (now : ℕ) (counts : List ℕ) → g.wait < 2 ^ 64 →
    content_of g (Tick now counts (tick_answer g E now counts) ∷ E)
    ≡ after_adoptions (after_tick (content_of g E) (rule_of g.wait_kind g.wait now) (row_layout_of g E)) (tick_answer g E now counts).adopted

abbrev pub PopIsPop : Type 0
PopIsPop = (g : Given) (E : List Entry) → content_of g (Pop (pop_answer E) ∷ E) ≡ after_pop (content_of g E)
