-- Whole lists of calls of a table, the newest first, by the definitions of each call.
use Rattle.std.specs.Prelude.{◌≡◌, ℕ, ◌<◌, ◌++◌, Bool, List, [], ◌∷◌, length, slice_index_or}
use Rattle.std.specs.Option.{option_to_list}
use Rattle.pdc_open_row.specs.pdc_row.CellView.{CellView}
use Rattle.pdc_open_row.specs.pdc_row.RowView.{RowView, row_instants}
use Rattle.pdc_open_row.specs.pdc_row.Rising.{Rises, AreBelow}
use Rattle.pdc_table.specs.Content.{Content, HaveOwnColumns, IsPut, new_content, streams_of}
use Rattle.pdc_open_row.specs.pdc_columns.Layout.{LayoutView}
use Rattle.pdc_table.specs.Steps.{after_put, after_require, after_tick, after_drop_stream, after_drop_column, after_pop, closed_by, pop_answer, put_answer}
use Rattle.pdc_open_row.specs.pdc_columns.Taking.{given_for, with_cells, with_given}
use Rattle.pdc_open_row.specs.pdc_columns.Views.{ColumnView, empty_column}
use Rattle.pdc_open_row.specs.declared.outcome.PutOutcome.TheVariants.{Taken}
use Rattle.pdc_open_row.specs.declared.wait_rule.WaitRule.{WaitRule}

-- one call
pub data Call : Type 0 where
  Put : (stream instant : ℕ) (cells : List (ℕ × CellView)) → Call
  Require : (stream : ℕ) (is_required : Bool) → Call
  Tick : (rule : WaitRule) (layout : LayoutView) → Call
  DropStream : (stream : ℕ) → Call
  DropColumn : (column : ℕ) → Call
  Pop : Call

-- what a call makes of the content
abbrev pub after : Content → Call → Content
after c (Put stream instant cells) = after_put c stream instant cells
after c (Require stream is_required) = after_require c stream is_required
after c (Tick rule layout) = after_tick c rule layout
after c (DropStream stream) = after_drop_stream c stream
after c (DropColumn column) = after_drop_column c column
after c Pop = after_pop c

-- the rows that a call closes, and the row that it pops
abbrev pub closed_at : Content → Call → List RowView
closed_at c (Tick rule layout) = closed_by c rule layout
closed_at c _ = []

abbrev pub popped_at : Content → Call → List RowView
popped_at c Pop = option_to_list (pop_answer c)
popped_at c _ = []

-- what calls make of the content
abbrev pub after_all : Content → List Call → Content
after_all c [] = c
after_all c (call ∷ calls) = after (after_all c calls) call

-- the rows that calls close, and those that they pop, the first to come first
abbrev pub closed_in : Content → List Call → List RowView
closed_in c [] = []
closed_in c (call ∷ calls) = closed_in c calls ++ closed_at (after_all c calls) call

abbrev pub popped_in : Content → List Call → List RowView
popped_in c [] = []
popped_in c (call ∷ calls) = popped_in c calls ++ popped_at (after_all c calls) call

-- what a table may be asked where it contains this
abbrev pub IsAllowed : Content → Call → Type 0
IsAllowed c (Put stream instant cells) = IsPut c stream cells
IsAllowed c (Require stream is_required) = stream < streams_of c
IsAllowed c (DropStream stream) = stream < streams_of c
IsAllowed c (DropColumn column) = column < c.columns
IsAllowed c _ = Unit {0}

abbrev pub AreAllowed : Content → List Call → Type 0
AreAllowed c [] = Unit {0}
AreAllowed c (call ∷ calls) = IsAllowed (after_all c calls) call × AreAllowed c calls

-- Over every list of calls on a new table, the rows come out in strictly rising order, above the floor.
abbrev pub RowsComeOutRising : Type 0
RowsComeOutRising =
    (window columns lanes floor : ℕ) (calls : List Call) →
    Rises floor (row_instants (popped_in (new_content window columns lanes floor) calls))

-- An instant closes at most once: the instants that close strictly rise.
abbrev pub InstantsCloseOnce : Type 0
InstantsCloseOnce =
    (window columns lanes floor : ℕ) (calls : List Call) →
    Rises floor (row_instants (closed_in (new_content window columns lanes floor) calls))

-- Each row that closes comes out once, in the order of closing: those that were popped and those that wait.
abbrev pub RowsComeOutOnce : Type 0
RowsComeOutOnce =
    (window columns lanes floor : ℕ) (calls : List Call) →
    popped_in (new_content window columns lanes floor) calls ++ (after_all (new_content window columns lanes floor) calls).closed
    ≡ closed_in (new_content window columns lanes floor) calls

-- Nothing is put at or below an instant that closed.
abbrev pub NothingIsPutBelowClosed : Type 0
NothingIsPutBelowClosed =
    (window columns lanes floor : ℕ) (calls : List Call) (stream instant : ℕ) (cells : List (ℕ × CellView)) →
    put_answer (after_all (new_content window columns lanes floor) calls) stream instant cells ≡ Taken →
    (floor < instant) × AreBelow instant (row_instants (closed_in (new_content window columns lanes floor) calls))

-- Where each column is given at most one cell, each column holds in its lane what was given for it, and is else as before.
abbrev pub BlocksStandInTheirColumns : Type 0
BlocksStandInTheirColumns =
    (lane : ℕ) (cells : List (ℕ × CellView)) (columns : List ColumnView) → HaveOwnColumns cells → (k : ℕ) → k < length columns →
    slice_index_or (with_cells lane cells columns) k empty_column
    ≡ with_given lane (given_for k cells) (slice_index_or columns k empty_column)
