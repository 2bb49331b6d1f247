-- What the alignment of a concentrator keeps of a life: a function of the life.
use Rattle.std.specs.Prelude.{◌≡◌, ℕ, ◌+◌, Bool, true, false, List, [], ◌∷◌, length, map, Option, None, Some}
use Rattle.pdc_arrival.specs.pdc_cfg.Section.{SectionFields}
use Rattle.pdc_arrival.specs.pdc_row.declared.output.Output.{Output}
use Rattle.pdc_table.specs.Content.{Content}
use Rattle.pdc_arrival.specs.pdc_life.Given.{Given, columns_of, count_for}
use Rattle.pdc_arrival.specs.pdc_life.Arrival.{Arrival}
use Rattle.pdc_arrival.specs.pdc_life.declared.outcome.Outcome.{Outcome}
use Rattle.pdc_arrival.specs.pdc_life.declared.outcome.Outcome.TheVariants.{Known, Refused}
use Rattle.pdc_arrival.specs.pdc_life.Life.{Answer, Arrive, Entry, TickAnswer, changes, cleared_count, held_section, now_of, section_in_force}
use Rattle.pdc_arrival.specs.pdc_life.Run.{IsRun}
use Rattle.pdc_arrival.specs.pdc_life.declared.timing.WaitKind.{WaitKind}
use Rattle.pdc_align.specs.State.{content_of}
use Rattle.pdc_align.specs.declared.plan.Plan.{Plan}
use Rattle.pdc_align.specs.declared.ticked.Ticked.{Ticked}

-- what is kept of a column: the count below which no section is held, the count up to which one may be adopted, and the sections
-- that are held and in force
pub record ColumnState : Type 0 where
  pub opening : ℕ
  pub cleared : ℕ
  pub held : Option SectionFields
  pub in_force : Option SectionFields

-- The state of an alignment.
pub record State : Type 0 where
  -- what is fixed: how long an open instant waits, how far above now one may lie, and the number of the start
  pub wait : ℕ
  pub wait_kind : WaitKind
  pub ahead : ℕ
  pub start : ℕ
  -- what counts as now, the change number, the columns, and what the table contains
  pub current : ℕ
  pub change : ℕ
  pub columns : List ColumnState
  pub content : Content

-- What contracts see of an alignment: its state, for each buffer that it holds how many places it has, and how many boxes its columns
-- have, two each; how often both lanes of a column differed at a closing, which no definition of a life speaks of; and the greatest
-- instant popped, at first the floor.
pub record AlignmentView : Type 0 where
  pub state : State
  pub memory : List ℕ
  pub disagreements : ℕ
  pub popped : ℕ

-- the section in force of each column
abbrev pub in_force_in : State → List (Option SectionFields)
in_force_in a = map (λ (column : ColumnState). column.in_force) a.columns

-- It has so many columns and lanes,
pub record HasSizes (columns lanes : ℕ) (a : State) : Type 0 where
  pub column_count : a.content.columns ≡ columns
  pub lane_count : a.content.lanes ≡ lanes
  pub each_column : length a.columns ≡ columns

-- which never changes.
pub record KeepsSizes (old new : State) : Type 0 where
  pub columns : new.content.columns ≡ old.content.columns
  pub lanes : new.content.lanes ≡ old.content.lanes
  pub each : length new.columns ≡ length old.columns

-- What no call changes but a tick and a pop: its sizes and its memory, the sections in force, how many cells disagreed, and the last
-- instant popped.
pub record Unchanged (old new : AlignmentView) : Type 0 where
  pub sizes : KeepsSizes old.state new.state
  pub memory : new.memory ≡ old.memory
  pub in_force : in_force_in new.state ≡ in_force_in old.state
  pub disagreements : new.disagreements ≡ old.disagreements
  pub popped : new.popped ≡ old.popped

abbrev pub column_state_of : Given → List Entry → (c : ℕ) → ColumnState
column_state_of g E c = record {
  opening = count_for c g.counts;
  cleared = cleared_count g E c;
  held = held_section g E c;
  in_force = section_in_force g E c;
}

-- What an alignment keeps after E.
abbrev pub align_of : Given → List Entry → State
align_of g E = record {
  wait = g.wait;
  wait_kind = g.wait_kind;
  ahead = g.ahead;
  start = g.start;
  current = now_of g E;
  change = changes E;
  columns = map (column_state_of g E) (columns_of g);
  content = content_of g E;
}

-- The alignment stands for this life, which is a run.
pub record StandsFor (g : Given) (E : List Entry) (a : State) : Type 0 where
  pub run : IsRun g E
  pub same : a ≡ align_of g E

-- What is given to a life by a plan, with what its frames say.
abbrev pub given_by : Plan → Output → (start floor : ℕ) → (counts : List ℕ) → (opening : ℕ) → Given
given_by plan output start floor counts opening = record {
  output = output;
  wait = plan.wait;
  wait_kind = plan.wait_kind;
  window = plan.window;
  ahead = plan.ahead;
  columns = plan.columns;
  lanes = plan.lanes;
  start = start;
  floor = floor;
  counts = counts;
  opening = opening;
}

-- the answer neither takes data nor holds a section
abbrev pub is_left : Outcome → Bool
is_left Known = true
is_left (Refused refusal) = true
is_left outcome = false

-- An arrival that was neither taken nor a candidate leaves an alignment as it is: it stands for the run with that step more.
abbrev pub LeavesIt : Type 0
LeavesIt =
    (g : Given) (E : List Entry) (a : State) (s : ℕ) (bytes : List ℕ) (arrival : Arrival) (answer : Answer) →
    StandsFor g E a → is_left answer.outcome ≡ true → IsRun g (Arrive s bytes arrival answer ∷ E) → StandsFor g (Arrive s bytes arrival answer ∷ E) a

-- What a tick tells: how many rows closed, the change number where some column was adopted, and whether the numbers were used up.
abbrev pub new_change : (change : ℕ) → (adopted : List ℕ) → Option ℕ
new_change change [] = None
new_change change (column ∷ columns) = Some (change + 1)

abbrev pub ticked_of : (change : ℕ) → TickAnswer → Ticked
ticked_of change answer = record { closed = length answer.rows; change = new_change change answer.adopted; used_up = answer.used_up }
