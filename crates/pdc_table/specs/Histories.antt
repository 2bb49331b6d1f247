-- What a table contains, told by the calls on it, the newest first.
use Rattle.std.specs.Prelude.{◌≡◌, ℕ, ◌+◌, ◌<◌, ◌==◌, Bool, false, ◌&&◌, ◌||◌, not, if◌then◌else◌, nat_le, nat_lt, List, [], ◌∷◌, filter, Option, None, IfSome, is_some, slice_index_or}
use Rattle.std.specs.List.{list_all, range_with_len}
use Rattle.pdc_open_row.specs.pdc_row.CellView.{CellView}
use Rattle.pdc_open_row.specs.pdc_row.Chosen.{first_of}
use Rattle.pdc_open_row.specs.pdc_row.RowView.{row_instants}
use Rattle.pdc_table.specs.Calls.{AreAllowed, Call, Put, Require, Tick, DropStream, DropColumn, after_all}
use Rattle.pdc_table.specs.Closing.{counter}
use Rattle.pdc_open_row.specs.Due.{is_over}
use Rattle.pdc_table.specs.Content.{Content, lane_of, new_content, streams_of}
use Rattle.pdc_open_row.specs.pdc_columns.Layout.{LayoutView}
use Rattle.pdc_table.specs.OpenInstants.{instants_of}
use Rattle.pdc_table.specs.Placing.{row_at}
use Rattle.pdc_table.specs.Steps.{closed_by, put_answer}
use Rattle.pdc_open_row.specs.pdc_columns.Taking.{cell_in, given_for}
use Rattle.pdc_open_row.specs.Taking.{is_taken}
use Rattle.pdc_open_row.specs.pdc_columns.Views.{empty_column}
use Rattle.pdc_open_row.specs.Views.{OpenRowView}
use Rattle.pdc_open_row.specs.declared.wait_rule.WaitRule.{WaitRule}

-- at this content the call is a put for the instant, and it is taken
abbrev pub is_take : Content → (i : ℕ) → Call → Bool
is_take c i (Put stream instant cells) = (instant == i) && is_taken (put_answer c stream instant cells)
is_take c i call = false

abbrev pub is_of_stream : (s : ℕ) → Call → Bool
is_of_stream s (Put stream instant cells) = stream == s
is_of_stream s call = false

-- the instant was taken
abbrev pub was_taken : Content → List Call → (i : ℕ) → Bool
was_taken c [] i = false
was_taken c (call ∷ calls) i = is_take (after_all c calls) i call || was_taken c calls i

-- The ticks since the first take of the instant.
abbrev pub ticks_since_take : Content → List Call → (i : ℕ) → ℕ
ticks_since_take c [] i = 0
ticks_since_take c (Tick rule layout ∷ calls) i = if was_taken c calls i then ticks_since_take c calls i + 1 else 0
ticks_since_take c (call ∷ calls) i = ticks_since_take c calls i

-- the call drops the stream
abbrev pub is_drop_of : (s : ℕ) → Call → Bool
is_drop_of s (DropStream stream) = stream == s
is_drop_of s call = false

-- The stream was taken at the instant since it was dropped last.
abbrev pub is_taken_since : Content → List Call → (s i : ℕ) → Bool
is_taken_since c [] s i = false
is_taken_since c (call ∷ calls) s i =
    if is_drop_of s call then false
    else (is_of_stream s call && is_take (after_all c calls) i call) || is_taken_since c calls s i

-- the call drops what the stream gave for the column
abbrev pub is_drop_in : (s k : ℕ) → Call → Bool
is_drop_in s k (DropStream stream) = stream == s
is_drop_in s k (DropColumn column) = column == k
is_drop_in s k call = false

-- what the call gives for the column, where it is a put
abbrev pub given_by : (k : ℕ) → Call → Option CellView
given_by k (Put stream instant cells) = given_for k cells
given_by k call = None

-- The cell of a stream in a column at an instant: the first that was put of it since its last drop.
abbrev pub first_put : Content → List Call → (s k i : ℕ) → Option CellView
first_put c [] s k i = None
first_put c (call ∷ calls) s k i =
    if is_drop_in s k call then None
    else first_of (first_put c calls s k i) (if is_of_stream s call && is_take (after_all c calls) i call then given_by k call else None)

-- An instant waits for the stream: so the last call of it said.
abbrev pub is_awaited : List Call → (s : ℕ) → Bool
is_awaited [] s = false
is_awaited (Require stream is_required ∷ calls) s = if stream == s then is_required else is_awaited calls s
is_awaited (call ∷ calls) s = is_awaited calls s

-- At a tick after the calls an instant is due where each stream that it waits for was taken since it was dropped last, or
-- its wait is over, this tick counted.
abbrev pub is_due_after : Content → List Call → WaitRule → (i : ℕ) → Bool
is_due_after c calls rule i =
    list_all (λ s. not (is_awaited calls s) || is_taken_since c calls s i) (range_with_len 0 (streams_of c))
    || is_over rule (counter (ticks_since_take c calls i + 1)) i

-- the instants that close: those for which every one of them up to it is due
abbrev pub closing_after : Content → List Call → WaitRule → List ℕ → List ℕ
closing_after c calls rule instants =
    filter (λ i. list_all (λ j. not (nat_le j i) || is_due_after c calls rule j) instants) instants

abbrev pub open_row_after : Content → List Call → (i : ℕ) → Option OpenRowView
open_row_after c calls i = row_at i (after_all c calls).open_rows

-- An instant is open where it was taken and is above the last that closed.
abbrev pub InstantsOpenWhereTaken : Type 0
InstantsOpenWhereTaken =
    (window columns lanes floor : ℕ) (calls : List Call) (i : ℕ) → AreAllowed (new_content window columns lanes floor) calls →
    is_some (open_row_after (new_content window columns lanes floor) calls i)
    ≡ (was_taken (new_content window columns lanes floor) calls i && nat_lt (after_all (new_content window columns lanes floor) calls).last i)

-- The age of an open instant is the ticks since its first take, as a counter tells them.
abbrev pub AgesAreTicks : Type 0
AgesAreTicks =
    (window columns lanes floor : ℕ) (calls : List Call) (i : ℕ) → AreAllowed (new_content window columns lanes floor) calls →
    IfSome (open_row_after (new_content window columns lanes floor) calls i)
    (λ row. row.age ≡ counter (ticks_since_take (new_content window columns lanes floor) calls i))

-- What a stream's lane of a column holds is the first that was put of it since its last drop, for each column that the stream
-- writes.
abbrev pub CellsAreFirstPuts : Type 0
CellsAreFirstPuts =
    (window columns lanes floor : ℕ) (calls : List Call) (s k i : ℕ) → AreAllowed (new_content window columns lanes floor) calls →
    s < streams_of (new_content window columns lanes floor) → k < columns → (lanes ≡ 1 → k ≡ s) →
    IfSome (open_row_after (new_content window columns lanes floor) calls i)
    (λ row. cell_in (lane_of (new_content window columns lanes floor) s) (slice_index_or row.columns k empty_column)
    ≡ first_put (new_content window columns lanes floor) calls s k i)

-- The rows that close at a tick are those of the open instants for which every open one up to them is due.
abbrev pub RowsCloseWhereDue : Type 0
RowsCloseWhereDue =
    (window columns lanes floor : ℕ) (calls : List Call) (rule : WaitRule) (layout : LayoutView) →
    AreAllowed (new_content window columns lanes floor) calls →
    row_instants (closed_by (after_all (new_content window columns lanes floor) calls) rule layout)
    ≡ closing_after (new_content window columns lanes floor) calls rule
    (instants_of (after_all (new_content window columns lanes floor) calls).open_rows)
