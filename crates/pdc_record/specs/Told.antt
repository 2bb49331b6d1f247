-- What an entry says, without where its bytes lie in memory.
use Rattle.std.specs.Prelude.{ℕ, Bool, List, Option, Some, None}
use Rattle.pdc_life.specs.declared.outcome.Outcome.{Outcome}
use Rattle.pdc_record.specs.declared.begun.Role.{Role}
use Rattle.pdc_record.specs.declared.begun.Begun.{Begun}
use Rattle.pdc_record.specs.declared.entry.What.{What}
use Rattle.pdc_record.specs.declared.entry.What.TheVariants as what
use Rattle.pdc_record.specs.declared.entry.Entry.{Entry}

-- what a life began with
pub record Start : Type 0 where
  pub role : Role
  pub id : ℕ
  pub rate : ℕ
  pub start : ℕ
  pub floor : ℕ
  pub counts : List ℕ
  pub now : ℕ
  pub program : List ℕ
  pub settings : List ℕ

-- a tick, and what it was answered
pub record Tick : Type 0 where
  pub now : ℕ
  pub counts : List ℕ
  pub closed : ℕ
  pub change : Option ℕ
  pub used_up : Bool

-- what happened
pub data Told : Type 0 where
  Began : (start : Start) → Told
  Arrived : (stream : ℕ) (outcome : Outcome) (datagram : List ℕ) → Told
  Unanswered : (stream : ℕ) (datagram : List ℕ) → Told
  Ticked : (tick : Tick) → Told
  FoundNone : Told
  Popped : (instant : ℕ) (frame : Option (List ℕ)) → Told
  Laid : (frame : List ℕ) → Told
  Missing : (until : ℕ) → Told
  NoFrame : (stream : ℕ) (outcome : Outcome) (len : ℕ) (front : List ℕ) → Told

-- an entry's fields
pub record Fields : Type 0 where
  pub step : ℕ
  pub time : ℕ
  pub told : Told

abbrev pub start_of : Begun → Start
start_of b = record {
  role = b.role;
  id = b.id;
  rate = b.rate;
  start = b.start;
  floor = b.floor;
  counts = b.counts;
  now = b.now;
  program = b.program;
  settings = b.settings.now;
}

abbrev pub told_of : What → Told
told_of (what.Begun b) = Began (start_of b)
told_of (what.Arrived stream outcome datagram) = Arrived stream outcome datagram.now
told_of (what.Unanswered stream datagram) = Unanswered stream datagram.now
told_of (what.Ticked now counts closed change used_up) = Ticked (record { now = now; counts = counts; closed = closed; change = change; used_up = used_up })
told_of what.FoundNone = FoundNone
told_of (what.Popped instant None) = Popped instant None
told_of (what.Popped instant (Some frame)) = Popped instant (Some frame.now)
told_of (what.Laid frame) = Laid frame.now
told_of (what.Missing until) = Missing until
told_of (what.NoFrame stream outcome len front) = NoFrame stream outcome len front.now

abbrev pub fields_of : Entry → Fields
fields_of entry = record { step = entry.step; time = entry.time; told = told_of entry.what }
