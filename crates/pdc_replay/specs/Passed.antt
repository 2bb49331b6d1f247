-- What an entry of a record that passed says of the life that is played again.
use Rattle.std.specs.Prelude.{◌≡◌, ℕ, ◌+◌, ◌-◌, ◌^◌, Bool, true, false, List, ◌∷◌, Option, Some, None, length, min, nat_lt, if◌then◌else◌}
use Rattle.std.specs.Borrow.{Bor}
use Rattle.pdc_life.specs.Answer.{Rules, ToArrive, ToPop, ToTick, answered, pop_answer, tick_answer}
use Rattle.pdc_life.specs.Arrival.{Arrival}
use Rattle.pdc_life.specs.Given.{Given}
use Rattle.pdc_life.specs.Life.{Entry, changes}
use Rattle.pdc_life.specs.Published.{layout_wire}
use Rattle.pdc_life.specs.declared.outcome.Outcome.{Outcome}
use Rattle.pdc_row.specs.Layout.{wire_of}
use Rattle.pdc_row.specs.RowView.{RowView}
use Rattle.pdc_align.specs.Align.{ticked_of}
use Rattle.pdc_align.specs.declared.ticked.Ticked.{Ticked}
use Rattle.pdc_frame.specs.Bytes.{long_at}
use Rattle.pdc_record.specs.declared.entry.Entry.{Entry as Recorded}
use Rattle.pdc_record.specs.declared.entry.What.{What}
use Rattle.pdc_record.specs.declared.entry.What.TheVariants as what
use Rattle.pdc_replay.specs.Unkept.{IsNoFrame}

-- The datagram says something, and the life answers it so; behind it there is this life.
pub record PassesArrival (rules : Rules) (Says : ℕ → List ℕ → Arrival → Type 0) (g : Given) (E : List Entry) (After : List Entry → Type 0)
    (stream : ℕ) (outcome : Outcome) (datagram : List ℕ) : Type 0 where
  pub arrival : Arrival
  pub says : Says stream datagram arrival
  pub answer : outcome ≡ (rules g E stream arrival).outcome
  pub stands : After (answered rules g E (ToArrive stream datagram arrival) ∷ E)

-- the pop of the life finds no row, or the one of this instant
abbrev pub IsPop : List Entry → Option ℕ → RowView → Type 0
IsPop E None row = pop_answer E ≡ None
IsPop E (Some instant) row = (pop_answer E ≡ Some row) × (row.instant ≡ instant)

-- The life ticks so, and does what is recorded.
pub record PassesTick (rules : Rules) (g : Given) (E : List Entry) (After : List Entry → Type 0)
    (now : ℕ) (counts : List ℕ) (did : Ticked) : Type 0 where
  pub answer : did ≡ ticked_of (changes E) (tick_answer g E now counts)
  pub stands : After (answered rules g E (ToTick now counts) ∷ E)

-- a frame that is recorded is this one, byte for byte
abbrev pub IsFrameOf : Option (Bor (List ℕ)) → (wire : List ℕ) → Type 0
IsFrameOf None wire = Unit {0}
IsFrameOf (Some frame) wire = frame.now ≡ wire

-- The life pops the row of this instant, and the frame that is recorded, where one is, is the one that it publishes of the row.
pub record PassesRow (rules : Rules) (g : Given) (E : List Entry) (After : List Entry → Type 0)
    (instant : ℕ) (frame : Option (Bor (List ℕ))) : Type 0 where
  pub row : RowView
  pub popped : pop_answer E ≡ Some row
  pub same : row.instant ≡ instant
  pub published : IsFrameOf frame (wire_of g.output row)
  pub stands : After (answered rules g E ToPop ∷ E)

-- SOC, the second that a frame is dated with; 0 where it is too short to be dated
abbrev pub soc_in : List ℕ → ℕ
soc_in frame = if nat_lt (length frame) 10 then 0 else long_at frame 6

-- What an entry says is what the life with these steps does next, and behind it there is a life of which `After` holds. A frame is the one
-- that the life publishes of the row, a layout the one in force, dated with its second, each byte for byte. An entry that is no step leaves
-- the life as it is, as does what was not kept whole, which is no frame. That steps are missing does not pass.
abbrev pub Passes : Rules → (ℕ → List ℕ → Arrival → Type 0) → Given → List Entry → (List Entry → Type 0) → What → Type 0
Passes rules Says g E After (what.Begun begun) = After E
Passes rules Says g E After (what.Arrived stream outcome datagram) = PassesArrival rules Says g E After stream outcome datagram.now
Passes rules Says g E After (what.Unanswered stream datagram) = After E
Passes rules Says g E After (what.Ticked now counts closed change used_up) =
    PassesTick rules g E After now counts (record { closed = closed; change = change; used_up = used_up })
Passes rules Says g E After what.FoundNone = (pop_answer E ≡ None) × After (answered rules g E ToPop ∷ E)
Passes rules Says g E After (what.Popped instant frame) = PassesRow rules g E After instant frame
Passes rules Says g E After (what.Laid frame) = (frame.now ≡ layout_wire g E (soc_in frame.now)) × After E
Passes rules Says g E After (what.Missing until) = ⊥
Passes rules Says g E After (what.NoFrame stream outcome len front) = IsNoFrame outcome × After E

-- A tick that a file carries over closes no row: those that it closed were popped before the file begins.
abbrev pub carried_as : What → What
carried_as (what.Ticked now counts closed change used_up) = what.Ticked now counts 0 change used_up
carried_as other = other

-- which entries are steps
abbrev pub is_step : What → Bool
is_step (what.Arrived stream outcome datagram) = true
is_step (what.Ticked now counts closed change used_up) = true
is_step what.FoundNone = true
is_step (what.Popped instant frame) = true
is_step (what.NoFrame stream outcome len front) = true
is_step other = false

-- a step has the number of the next one
abbrev pub IsNumbered : Recorded → (next : ℕ) → Type 0
IsNumbered entry next = is_step entry.what ≡ true → entry.step ≡ next

-- the number behind this one, and none is greater than 2^64 - 1
abbrev pub behind : ℕ → ℕ
behind number = min (number + 1) (2 ^ 64 - 1)

-- the number of the next step behind an entry
abbrev pub number_after : What → (next : ℕ) → ℕ
number_after it next = if is_step it then behind next else next
