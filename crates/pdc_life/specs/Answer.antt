-- What a step is answered after a life, and which lives there are.
use Rattle.std.specs.Prelude.{if◌then◌else◌, ◌&&◌, ◌++◌, ◌+◌, ◌-◌, ◌^◌, ◌∷◌, ◌≡◌}
use Rattle.pdc_life.specs.Names.{[], Bool, CellView, false, filter, is_near, length, List, list_all, list_any, map, max, MAX_PMUS, nat_le, nat_lt, None, not, Option, replicate, RowView, same_block, SectionFields, slice_get, Some, true, ℕ}
use Rattle.pdc_life.specs.Arrival.{Arrival}
use Rattle.pdc_life.specs.Given.{Given, columns_of, count_for}
use Rattle.pdc_life.specs.Life.{Answer, TickAnswer, Entry, Arrive, Tick, Pop, Take, changes, cell_of, cleared_count, held_instants, held_section, is_taken, last_of, now_of, section_in_force, take_of, waiting}
use Rattle.pdc_life.specs.Row.{rows_of}
use Rattle.pdc_life.specs.declared.outcome.Outcome.{Outcome}
use Rattle.pdc_life.specs.declared.outcome.Outcome.TheVariants.{Taken, Refused}
use Rattle.pdc_life.specs.declared.outcome.Refusal.TheVariants.{Late, Ahead, OutOfWindow, Duplicate, Conflict}

-- The common end of every data answer, of a stream and for an instant, with the cells that the data would give.

-- the cell is there and has another block than the one that is given
abbrev pub is_other : Option CellView → CellView → Bool
is_other None cell = false
is_other (Some held) cell = not (same_block held.block cell.block)

-- the first to be taken stays: other blocks conflict with it, where they are there still, and the rest is a duplicate
abbrev pub again_answer : Option Take → (conflicts : Bool) → Outcome
again_answer None conflicts = Taken
again_answer (Some t) conflicts = if conflicts then Refused Conflict else Refused Duplicate

-- the first cause that holds
abbrev pub first_cause : (late ahead far : Bool) → Outcome → Outcome
first_cause late ahead far other =
    if late then Refused Late else (if ahead then Refused Ahead else (if far then Refused OutOfWindow else other))

abbrev pub outcome_in_time : Given → List Entry → (s i : ℕ) → List (ℕ × CellView) → Outcome
outcome_in_time g E s i cells =
    first_cause (nat_le i (last_of g E)) (nat_lt (now_of g E + g.ahead) i)
    (not (list_all (is_near g.window i) (held_instants g E)))
    (again_answer (take_of g E s i) (list_any (λ (part : ℕ × CellView). is_other (cell_of E s part.0 i) part.1) cells))

-- an outcome with no cells
abbrev pub bare : Outcome → Answer
bare outcome = record { outcome = outcome; cells = [] }

abbrev pub with_cells : Outcome → List (ℕ × CellView) → Answer
with_cells outcome cells = record { outcome = outcome; cells = if is_taken outcome then cells else [] }

abbrev pub answer_in_time : Given → List Entry → (s i : ℕ) → List (ℕ × CellView) → Answer
answer_in_time g E s i cells = with_cells (outcome_in_time g E s i cells) cells

-- Ticks and pops.

-- the count is greater than the one in force, or the first
abbrev pub is_newer : SectionFields → Option SectionFields → Bool
is_newer held None = true
is_newer held (Some in_force) = nat_lt in_force.count held.count

-- what is held is newer than what is in force, and cleared
abbrev pub is_ready : (held in_force : Option SectionFields) → (cleared : ℕ) → Bool
is_ready None in_force cleared = false
is_ready (Some held) in_force cleared = is_newer held in_force && nat_le held.count cleared

-- The columns that a tick after E with these counts adopts, where a change number is left: its counts clear first. A held count
-- above the cleared one waits.
abbrev pub ready_columns : Given → List Entry → (counts : List ℕ) → List ℕ
ready_columns g E counts =
    filter (λ c. is_ready (held_section g E c) (section_in_force g E c) (max (cleared_count g E c) (count_for c counts))) (columns_of g)

-- a change number is left
abbrev pub has_change : List Entry → Bool
has_change E = nat_lt (changes E) (2 ^ 32 - 1)

abbrev pub tick_answer : Given → List Entry → (now : ℕ) → (counts : List ℕ) → TickAnswer
tick_answer g E now counts = record {
  rows = rows_of g E now;
  adopted = if has_change E then ready_columns g E counts else [];
  used_up = not (has_change E) && nat_lt 0 (length (ready_columns g E counts));
}

-- the row that the pop after E gives: the first that waits
abbrev pub pop_answer : List Entry → Option RowView
pop_answer E = slice_get (waiting E) 0

-- Waiting counts: for each column the greater of the cleared and the held one, and 0 past the last of 16.
abbrev pub greatest_count : ℕ → Option SectionFields → ℕ
greatest_count cleared None = cleared
greatest_count cleared (Some held) = max cleared held.count

abbrev pub waiting_counts : Given → List Entry → List ℕ
waiting_counts g E = map (λ c. greatest_count (cleared_count g E c) (held_section g E c)) (columns_of g) ++ replicate (MAX_PMUS - g.columns) 0

-- What arrives after E is answered by the rules of a kind of core: those of a node, or those of the merger.
abbrev pub Rules : Type 0
Rules = Given → List Entry → (stream : ℕ) → Arrival → Answer

-- Each step was answered as the steps before it say. What bytes may say is a matter of reading, which each kind of core has
-- of its own.
abbrev pub IsLife : Rules → (Says : ℕ → List ℕ → Arrival → Type 0) → Given → List Entry → Type 0
IsLife rules Says g [] = Unit {0}
IsLife rules Says g (Arrive s bytes arrival answer ∷ E) = Says s bytes arrival × (answer ≡ rules g E s arrival) × IsLife rules Says g E
IsLife rules Says g (Tick now counts answer ∷ E) = (answer ≡ tick_answer g E now counts) × IsLife rules Says g E
IsLife rules Says g (Pop row ∷ E) = (row ≡ pop_answer E) × IsLife rules Says g E

-- a step that is to be answered, with its bytes read
pub data ReadStep : Type 0 where
  ToArrive : (stream : ℕ) (bytes : List ℕ) (arrival : Arrival) → ReadStep
  ToTick : (now : ℕ) (counts : List ℕ) → ReadStep
  ToPop : ReadStep

-- the step with the answer that it gets after E
abbrev pub answered : Rules → Given → List Entry → ReadStep → Entry
answered rules g E (ToArrive s bytes arrival) = Arrive s bytes arrival (rules g E s arrival)
answered rules g E (ToTick now counts) = Tick now counts (tick_answer g E now counts)
answered rules g E ToPop = Pop (pop_answer E)

-- the life after these steps, the first of them first
abbrev pub life_from : Rules → Given → List Entry → List ReadStep → List Entry
life_from rules g E [] = E
life_from rules g E (step ∷ steps) = life_from rules g (answered rules g E step ∷ E) steps

-- what the bytes of a step may say
abbrev pub IsReadStep : (Says : ℕ → List ℕ → Arrival → Type 0) → ReadStep → Type 0
IsReadStep Says (ToArrive s bytes arrival) = Says s bytes arrival
IsReadStep Says step = Unit {0}

-- A step as it happens: bytes arrive for a stream, its number from 0; a tick, with the instant that is now and the counts that are
-- cleared; a pop.
pub data Step : Type 0 where
  Arrives : (stream : ℕ) (bytes : List ℕ) → Step
  Ticks : (now : ℕ) (counts : List ℕ) → Step
  Pops : Step

abbrev pub step_of : Entry → Step
step_of (Arrive s bytes arrival answer) = Arrives s bytes
step_of (Tick now counts answer) = Ticks now counts
step_of (Pop row) = Pops

-- the steps of a life, the first of them first
abbrev pub steps_of : List Entry → List Step
steps_of [] = []
steps_of (e ∷ E) = steps_of E ++ step_of e ∷ []
