-- What each call of an alignment answers, and what it makes of what is kept.
use Rattle.std.specs.Prelude.{◌≡◌, ◌<◌, ℕ, ◌+◌, ◌-◌, ◌^◌, ◌++◌, ◌==◌, Bool, ◌&&◌, false, true, not, if◌then◌else◌, List, [], ◌∷◌, length, map, max, nat_le, nat_lt, replicate, slice_set, slice_index_or, None}
use Rattle.std.specs.List.{range_with_len}
use Rattle.pdc_arrival.specs.pdc_cfg.Section.{SectionFields}
use Rattle.pdc_arrival.specs.pdc_row.CellView.{CellView}
use Rattle.pdc_table.specs.Content.{Content, new_content}
use Rattle.pdc_table.specs.pdc_columns.Layout.{LayoutView}
use Rattle.pdc_table.specs.Steps.{after_pop, after_take, after_tick, disagreements_after, put_answer, tick_answer}
use Rattle.pdc_arrival.specs.pdc_life.declared.outcome.Outcome.{Outcome}
use Rattle.pdc_arrival.specs.pdc_life.declared.outcome.Outcome.TheVariants.{Refused}
use Rattle.pdc_arrival.specs.pdc_life.declared.outcome.Refusal.TheVariants.{Ahead, Late}
use Rattle.pdc_arrival.specs.pdc_life.Answer.{greatest_count, is_ready}
use Rattle.pdc_arrival.specs.pdc_life.Given.{Given, count_for}
use Rattle.pdc_arrival.specs.pdc_life.Life.{Entry, greater, is_taken}
use Rattle.pdc_align.specs.Follows.{told_by}
use Rattle.pdc_align.specs.State.{after_adoptions, rule_of, shape_in}
use Rattle.pdc_align.specs.Align.{State, ColumnState, StandsFor, column_state_of, new_change}
use Rattle.pdc_align.specs.declared.plan.Plan.{Plan}
use Rattle.pdc_align.specs.declared.ticked.Ticked.{Ticked}
use Rattle.pdc_arrival.specs.pdc_row.declared.limits.TheConstants.{MAX_PMUS}

-- a column for which nothing came; up to its opening count all is cleared
abbrev pub new_column : (counts : List ℕ) → (c : ℕ) → ColumnState
new_column counts c = record { opening = count_for c counts; cleared = count_for c counts; held = None; in_force = None }

-- what the table contains at the start: with one lane no instant waits for a stream, with two each waits for both
abbrev pub first_content : (window columns lanes floor : ℕ) → Content
first_content window columns lanes floor =
    record (new_content window columns lanes floor) { required = if lanes == 1 then replicate columns false else true ∷ true ∷ [] }

abbrev pub first_of_plan : Plan → (start floor : ℕ) → (counts : List ℕ) → (opening : ℕ) → State
first_of_plan plan start floor counts opening = record {
  wait = plan.wait;
  wait_kind = plan.wait_kind;
  ahead = plan.ahead;
  start = start;
  current = opening;
  change = 0;
  columns = map (new_column counts) (range_with_len 0 plan.columns);
  content = first_content plan.window plan.columns plan.lanes floor;
}

-- data of a stream for an instant, with its cells: the end of what a concentrator answers
abbrev pub put_outcome : State → (stream instant : ℕ) → List (ℕ × CellView) → Outcome
put_outcome a stream instant cells =
    if nat_le instant a.content.last then Refused Late
    else (if nat_lt (a.current + a.ahead) instant then Refused Ahead else told_by (put_answer a.content stream instant cells))

abbrev pub after_data : State → (stream instant : ℕ) → List (ℕ × CellView) → State
after_data a stream instant cells =
    if is_taken (put_outcome a stream instant cells) then record a { content = after_take a.content stream instant cells } else a

-- the column after a section that was accepted: one below its opening count is not held
abbrev pub with_section : SectionFields → ColumnState → ColumnState
with_section s column = if nat_le column.opening s.count then record column { held = greater column.held s } else column

-- the column that keeps nothing
abbrev pub no_column : ColumnState
no_column = record { opening = 0; cleared = 0; held = None; in_force = None }

-- what is kept of the column with this number
abbrev pub column_in : State → (c : ℕ) → ColumnState
column_in a c = slice_index_or a.columns c no_column

-- it is what the life says of the column
abbrev pub ColumnsStand : Type 0
ColumnsStand = (g : Given) (E : List Entry) (a : State) (c : ℕ) → StandsFor g E a → c < length a.columns → column_in a c ≡ column_state_of g E c

-- the columns after such sections, each with its column, the first of them first
abbrev pub with_sections : List (ℕ × SectionFields) → List ColumnState → List ColumnState
with_sections [] columns = columns
with_sections (part ∷ parts) columns =
    with_sections parts (slice_set columns part.0 (with_section part.1 (slice_index_or columns part.0 no_column)))

abbrev pub after_hold : State → List (ℕ × SectionFields) → State
after_hold a parts = record a { columns = with_sections parts a.columns }

abbrev pub after_pop_of : State → State
after_pop_of a = record a { content = after_pop a.content }

-- the layout under which rows close: the stamp, and the shapes in force
abbrev pub row_layout_in : State → LayoutView
row_layout_in a = record { start = a.start; change = a.change; shapes = map (λ (column : ColumnState). shape_in column.in_force) a.columns }

-- the counts that wait to be stored: the greater of cleared and held, and 0 past the last of 16
abbrev pub waiting_in : State → List ℕ
waiting_in a = map (λ (column : ColumnState). greatest_count column.cleared column.held) a.columns ++ replicate (MAX_PMUS - length a.columns) 0

-- ---- a tick

-- the column after this count was cleared
abbrev pub clear_to : (count : ℕ) → ColumnState → ColumnState
clear_to count column = record column { cleared = max column.cleared count }

-- the columns from the number first on, each after its count was cleared
abbrev pub cleared_from : (first : ℕ) → (counts : List ℕ) → List ColumnState → List ColumnState
cleared_from first counts [] = []
cleared_from first counts (column ∷ columns) = clear_to (count_for first counts) column ∷ cleared_from (first + 1) counts columns

-- what is held of the column is newer than what is in force, and cleared
abbrev pub is_ready_in : ColumnState → Bool
is_ready_in column = is_ready column.held column.in_force column.cleared

-- the numbers of those that are ready, where the first is the number first
abbrev pub ready_from : (first : ℕ) → List ColumnState → List ℕ
ready_from first [] = []
ready_from first (column ∷ columns) = if is_ready_in column then first ∷ ready_from (first + 1) columns else ready_from (first + 1) columns

-- what is held of a column that is ready comes into force
abbrev pub with_adoption : ColumnState → ColumnState
with_adoption column = if is_ready_in column then record column { in_force = column.held } else column

-- a change number is left
abbrev pub has_change_in : State → Bool
has_change_in a = nat_lt a.change (2 ^ 32 - 1)

-- First the rows close that are due, under the layout before the tick, and the counts are cleared;
abbrev pub after_closing : State → (now : ℕ) → (counts : List ℕ) → State
after_closing a now counts = record a {
  current = now;
  columns = cleared_from 0 counts a.columns;
  content = after_tick a.content (rule_of a.wait_kind a.wait now) (row_layout_in a);
}

-- then the columns that are ready are adopted, which takes one change number, where one is left.
abbrev pub change_after : (change : ℕ) → (adopted : List ℕ) → ℕ
change_after change [] = change
change_after change (column ∷ columns) = change + 1

abbrev pub after_adopting : State → (adopted : List ℕ) → State
after_adopting a adopted = record a {
  change = change_after a.change adopted;
  columns = map with_adoption a.columns;
  content = after_adoptions a.content adopted;
}

abbrev pub ready_at : State → (counts : List ℕ) → List ℕ
ready_at a counts = ready_from 0 (cleared_from 0 counts a.columns)

abbrev pub after_tick_of : State → (now : ℕ) → (counts : List ℕ) → State
after_tick_of a now counts =
    if has_change_in a then after_adopting (after_closing a now counts) (ready_at a counts) else after_closing a now counts

-- what it tells
abbrev pub told_at : State → (now : ℕ) → (counts : List ℕ) → Ticked
told_at a now counts = record {
  closed = tick_answer a.content (rule_of a.wait_kind a.wait now);
  change = if has_change_in a then new_change a.change (ready_at a counts) else None;
  used_up = not (has_change_in a) && nat_lt 0 (length (ready_at a counts));
}

-- how often both lanes of a column differed at a closing, once the rows closed that are due
abbrev pub disagreements_at : (so_far : ℕ) → State → (now : ℕ) → ℕ
disagreements_at so_far a now = disagreements_after so_far a.content (rule_of a.wait_kind a.wait now) (row_layout_in a)
