-- What each call of a table answers, and what it makes of the content.
use Rattle.std.specs.Prelude.{ℕ, ◌+◌, ◌++◌, nat_le, Bool, false, not, if◌then◌else◌, List, [], ◌∷◌, length, map, drop, Option, Some, None, option_map, slice_set}
use Rattle.std.specs.List.{list_all, slice_get}
use Rattle.pdc_open_row.specs.pdc_cfg.declared.shape.Shape.{Shape}
use Rattle.pdc_open_row.specs.pdc_row.CellView.{BlockView, CellView}
use Rattle.pdc_open_row.specs.pdc_row.Quality.{greatest}
use Rattle.pdc_open_row.specs.pdc_row.Rising.{is_near}
use Rattle.pdc_open_row.specs.pdc_row.RowView.{RowView}
use Rattle.pdc_open_row.specs.pdc_columns.Chosen.{disagreements_of}
use Rattle.pdc_open_row.specs.Due.{all_taken}
use Rattle.pdc_open_row.specs.Row.{row_of}
use Rattle.pdc_table.specs.OpenInstants.{instants_of}
use Rattle.pdc_table.specs.Closing.{aged, closing, staying, counter}
use Rattle.pdc_table.specs.Placing.{row_at, with_row}
use Rattle.pdc_open_row.specs.Taking.{answer_at, is_taken, with_frame, without_stream, without_column}
use Rattle.pdc_table.specs.Content.{Content, lane_of, held_instants, streams_of}
use Rattle.pdc_open_row.specs.pdc_columns.Layout.{LayoutView}
use Rattle.pdc_open_row.specs.Views.{OpenRowView, blank_row}
use Rattle.pdc_open_row.specs.declared.wait_rule.WaitRule.{WaitRule}
use Rattle.pdc_open_row.specs.declared.outcome.PutOutcome.{PutOutcome}
use Rattle.pdc_open_row.specs.declared.outcome.PutOutcome.TheVariants.{Late, OutOfWindow}

-- the first cause that holds
abbrev pub first_cause : (late far : Bool) → PutOutcome → PutOutcome
first_cause late far other = if late then Late else (if far then OutOfWindow else other)

-- each held instant is less than the window away
abbrev pub is_near_all : Content → ℕ → Bool
is_near_all c instant = list_all (is_near c.window instant) (held_instants c)

abbrev pub put_answer : Content → (stream instant : ℕ) → List (ℕ × CellView) → PutOutcome
put_answer c stream instant cells =
    first_cause (nat_le instant c.last) (not (is_near_all c instant))
    (answer_at (row_at instant c.open_rows) stream (lane_of c stream) cells)

-- a row for this instant in which nothing was taken
abbrev pub fresh_row : Content → (instant : ℕ) → OpenRowView
fresh_row c instant = blank_row (streams_of c) c.columns instant

-- A take: the cells go into their columns, each into the lane of the stream.
abbrev pub after_take : Content → (stream instant : ℕ) → List (ℕ × CellView) → Content
after_take c stream instant cells =
    record c { open_rows = with_row (with_frame stream (lane_of c stream) cells) (fresh_row c instant) c.open_rows }

abbrev pub after_put : Content → (stream instant : ℕ) → List (ℕ × CellView) → Content
after_put c stream instant cells =
    if is_taken (put_answer c stream instant cells) then after_take c stream instant cells else c

abbrev pub after_require : Content → ℕ → Bool → Content
after_require c stream is_required = record c { required = slice_set c.required stream is_required }

-- the open rows that close at a tick, this tick counted
abbrev pub closing_of : Content → WaitRule → List OpenRowView
closing_of c rule = closing c.required rule (map aged c.open_rows)

-- those that stay open
abbrev pub staying_of : Content → WaitRule → List OpenRowView
staying_of c rule = staying c.required rule (map aged c.open_rows)

-- the rows that they close to
abbrev pub closed_by : Content → WaitRule → LayoutView → List RowView
closed_by c rule layout = map (row_of layout) (closing_of c rule)

-- how many columns with a shape have lanes that disagree, added up over rows
abbrev pub disagreements_in : LayoutView → List OpenRowView → ℕ
disagreements_in layout [] = 0
disagreements_in layout (row ∷ rows) = disagreements_of layout.shapes row.columns + disagreements_in layout rows

-- The count of disagreements after a tick: it is a counter.
abbrev pub disagreements_after : (so_far : ℕ) → Content → WaitRule → LayoutView → ℕ
disagreements_after so_far c rule layout = counter (so_far + disagreements_in layout (closing_of c rule))

abbrev pub tick_answer : Content → WaitRule → ℕ
tick_answer c rule = length (closing_of c rule)

abbrev pub after_tick : Content → WaitRule → LayoutView → Content
after_tick c rule layout = record c {
  open_rows = staying_of c rule;
  closed = c.closed ++ closed_by c rule layout;
  last = greatest c.last (instants_of (closing_of c rule));
}

-- the shapes that there are
abbrev pub shapes_given : List (Option Shape) → List Shape
shapes_given [] = []
shapes_given (None ∷ shapes) = shapes_given shapes
shapes_given (Some shape ∷ shapes) = shape ∷ shapes_given shapes

abbrev pub shape_of : BlockView → Shape
shape_of block = block.shape

abbrev pub after_drop_stream : Content → ℕ → Content
after_drop_stream c stream = record c { open_rows = map (without_stream c.lanes stream) c.open_rows }

abbrev pub after_drop_column : Content → ℕ → Content
after_drop_column c column = record c { open_rows = map (without_column column) c.open_rows }

-- the lowest closed row
abbrev pub pop_answer : Content → Option RowView
pop_answer c = slice_get c.closed 0

-- and its instant
abbrev pub next_answer : Content → Option ℕ
next_answer c = option_map (λ (row : RowView). row.instant) (pop_answer c)

-- the first of these rows was brought all that it waits for; where there is none, nothing was
abbrev pub is_first_whole : List Bool → List OpenRowView → Bool
is_first_whole required [] = false
is_first_whole required (row ∷ rows) = all_taken required row.taken

-- whether the lowest open row, which is the first, was brought all that it waits for
abbrev pub whole_answer : Content → Bool
whole_answer c = is_first_whole c.required c.open_rows

abbrev pub after_pop : Content → Content
after_pop c = record c { closed = drop 1 c.closed }
