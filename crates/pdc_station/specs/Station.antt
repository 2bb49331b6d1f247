-- What a station keeps, and what stops leave of its mark.
use Rattle.std.specs.Prelude.{[], ◌+◌, ◌≡◌, Bool, if◌then◌else◌, List, None, Option, Some, ℕ}
use Rattle.pdc_row.specs.RowView.{RowView}
use Rattle.pdc_row.specs.{declared.output.Output.{Output}, Layout.{wire_of}}
use Rattle.pdc_mark.specs.{declared.stored.Stored.{Stored}, Stops.{Between, InBegin, Stop, stop_in_reserving, StopsInRaise}, Stored.{with_next_start}}
use Rattle.pdc_life.specs.{Answer.{waiting_counts}, Given.{Given}, Life.{Entry}}
use Rattle.pdc_history.specs.Event.{due_in, stored_by}
use Rattle.pdc_history.specs.{declared.act.StopAt.{StopAt}, Handed.{store_of}}
use Rattle.pdc_history.specs.declared.act.StopAt.TheVariants as at
use Rattle.pdc_history.specs.declared.act.Storing.TheVariants as storing

-- the bytes of the row, if there is one
abbrev pub wire_of_some : Output → Option RowView → List ℕ
wire_of_some output None = []
wire_of_some output (Some row) = wire_of output row

-- There is a life that a core stands for: that there were none is absurd. A type keeps it, and a type keeps only what has no content
-- of its own, so it is said in this way.
abbrev pub IsOfSomeLife : (Given → List Entry → Type 0) → Type 0
IsOfSomeLife Stands = ((g : Given) (E : List Entry) → Stands g E → ⊥) → ⊥

-- What a stop leaves stored: where the store that it fell into landed, that is done.
abbrev pub left_by : StopAt → (lead : ℕ) → (due : Option ℕ) → (waiting : List ℕ) → Stored → Stored
left_by at.Between lead due waiting stored = stored
left_by (at.In storing landed) lead due waiting stored = if landed then stored_by (store_of storing) lead due waiting stored else stored

-- the start number that it leaves
abbrev pub start_left : StopAt → (start : ℕ) → ℕ
start_left (at.In storing.Start landed) start = if landed then start + 1 else start
start_left at start = start

-- where a stop falls in a publish: in the reservation for the instant, if there is one, and else between stores
abbrev pub stop_in_publish : (landed : Bool) (lead : ℕ) → Option ℕ → (floor : ℕ) → Stop
stop_in_publish landed lead None floor = Between
stop_in_publish landed lead (Some instant) floor = stop_in_reserving landed lead instant floor

-- The stop falls so on a mark that stores this: between stores, or in the store.
abbrev pub FallsAt : {M : Type 0} (StopsAs : Stop → M → M → Type 0) → StopAt → (lead : ℕ) → (due : Option ℕ) → (waiting : List ℕ) → Stored → (before after : M) → Type 0
FallsAt StopsAs at.Between lead due waiting stored before after = StopsAs Between before after
FallsAt StopsAs (at.In storing.Publish landed) lead due waiting stored before after = StopsAs (stop_in_publish landed lead due stored.floor) before after
FallsAt StopsAs (at.In storing.Tick landed) lead due waiting stored before after = StopsInRaise StopsAs landed waiting stored.counts before after
FallsAt StopsAs (at.In storing.Start landed) lead due waiting stored before after = StopsAs (InBegin landed) before after

-- A stop ended a life of a core, and the next one began. It fell so on the mark, where the next row and the counts that wait are those of
-- each life that the core stood for; and on the mark as the stop left it, the next start was stored.
pub record HasStopped {M : Type 0} (stored : M → Stored) (StopsAs : Stop → M → M → Type 0) (Stood : Given → List Entry → Type 0) (at : StopAt) (lead : ℕ) (before after : M) : Type 0 where
  pub due : Option ℕ
  pub waiting : List ℕ
  pub waits : (g : Given) (E : List Entry) → Stood g E → (due ≡ due_in E) × (waiting ≡ waiting_counts g E)
  pub mark : stored after ≡ with_next_start (left_by at lead due waiting (stored before))
  pub left : M
  pub falls : FallsAt StopsAs at lead due waiting (stored before) before left
  pub begins : stored after ≡ with_next_start (stored left)
