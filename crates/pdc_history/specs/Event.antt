-- Events, with their bytes read, and what they make happen.
use Rattle.std.specs.Prelude.{[], ◌∷◌, Bool, if◌then◌else◌, List, Option, option_map, ℕ}
use Rattle.pdc_row.specs.RowView.{RowView}
use Rattle.pdc_mark.specs.{declared.stored.Stored.{Stored}, Stored.{with_due, with_next_start, with_waiting}}
use Rattle.pdc_life.specs.{Answer.{answered, pop_answer, ToArrive, ToTick, waiting_counts}, Arrival.{Arrival}, CoreKind.{rules_of}, Life.{Entry}}
use Rattle.pdc_history.specs.World.{Comes, Ends, given_in, Happened, kind_of, lead_of, life_of, mark_of, PassesBy, Publishes, raised, Sends, Ticks, Who, World}

-- what stores
pub data Store : Type 0 where
  OfPublish : Store
  OfTick : Store
  -- the next start
  OfStart : Store

-- what a core does
pub data Act : Type 0 where
  TickAt : (now : ℕ) → Act
  Publish : Act
  Stop : Act
  -- the stop falls into a store, which landed or not
  StopDuring : (store : Store) (landed : Bool) → Act

pub data Event : Type 0 where
  -- a PMU sends
  Send : (bytes : List ℕ) → Event
  -- a frame of what was sent, or junk, comes to a stream of the core
  Bring : (who : Who) (stream : ℕ) (bytes : List ℕ) (arrival : Arrival) → Event
  -- it has no such stream
  Miss : (who : Who) → Event
  Do : (who : Who) (act : Act) → Event

-- the instant of the next row of a life
abbrev pub due_in : List Entry → Option ℕ
due_in E = option_map (λ (row : RowView). row.instant) (pop_answer E)

-- What a store makes of a mark, where a row of this instant is the next and these counts wait.
abbrev pub stored_by : Store → (lead : ℕ) → (due : Option ℕ) → (waiting : List ℕ) → Stored → Stored
stored_by OfPublish lead due waiting mark = with_due lead due mark
stored_by OfTick lead due waiting mark = with_waiting waiting mark
stored_by OfStart lead due waiting mark = with_next_start mark

-- the mark that a stop leaves which falls into the store
abbrev pub left_in : World → List Happened → Who → Store → (landed : Bool) → Stored
left_in W H who store landed =
    if landed then stored_by store (lead_of W who) (due_in (life_of H who)) (waiting_counts (given_in W H who) (life_of H who)) (mark_of W H who)
    else mark_of W H who

-- What an event makes happen. Each life stores a greater start number before its first step. A stop inside a store that nothing needs is
-- a stop: the mark is the same, landed or not.
abbrev pub happens : World → List Happened → Event → Happened
happens W H (Send bytes) = Sends bytes
happens W H (Bring who s bytes arrival) = Comes who (answered (rules_of (kind_of W who)) (given_in W H who) (life_of H who) (ToArrive s bytes arrival))
happens W H (Miss who) = PassesBy who
happens W H (Do who (TickAt now)) = Ticks who (answered (rules_of (kind_of W who)) (given_in W H who) (life_of H who) (ToTick now (raised W H who).counts))
happens W H (Do who Publish) = Publishes who (pop_answer (life_of H who))
happens W H (Do who Stop) = Ends who (with_next_start (mark_of W H who))
happens W H (Do who (StopDuring store landed)) = Ends who (with_next_start (left_in W H who store landed))

-- the history after these events, the first of them first
abbrev pub history_from : World → List Happened → List Event → List Happened
history_from W H [] = H
history_from W H (event ∷ events) = history_from W (happens W H event ∷ H) events
