-- The steps of a core and its replies, beside the steps of lives and their answers.
use Rattle.std.specs.Prelude.{◌≡◌, ℕ, Bool, true, false, List, Some, nat_lt, option_map}
pub use Rattle.pdc_align.specs.Align.{ticked_of}
pub use Rattle.pdc_align.specs.Popped.{popped_after}
use Rattle.pdc_align.specs.pdc_life.Answer.{ReadStep, ToArrive, ToPop, ToTick}
use Rattle.pdc_align.specs.pdc_life.Life.{Arrive, Entry, Pop, Tick, changes}
use Rattle.pdc_align.specs.pdc_life.Arrival.{Arrival}
use Rattle.pdc_align.specs.pdc_row.RowView.{row_view}
pub use Rattle.pdc_align.specs.pdc_arrival.Counts.{after_answer, next}
pub use Rattle.pdc_align.specs.pdc_arrival.declared.counts.Counts.{Counts}
use Rattle.pdc_core.specs.KeptArrival.{taken_view}
use Rattle.pdc_core.specs.declared.step.CoreStep.{CoreStep}
use Rattle.pdc_core.specs.declared.step.CoreStep.TheVariants as core
use Rattle.pdc_core.specs.declared.step.Reply.{Reply}
use Rattle.pdc_core.specs.declared.step.Reply.TheVariants as reply

-- The step is this one of a life: what arrived is a copy of what its bytes say.
abbrev pub IsOf : CoreStep → ReadStep → Type 0
IsOf (core.Arrive stream taken) (ToArrive s bytes arrival) = (s ≡ stream) × (arrival ≡ taken_view taken)
IsOf (core.Tick now counts) (ToTick n cs) = (n ≡ now) × (cs ≡ counts)
IsOf core.Pop ToPop = Unit {0}
IsOf step read = ⊥

-- What arrives by it fits what a core is: the test that is given tells it.
abbrev pub is_allowed : (fits : ℕ → Arrival → Bool) → CoreStep → Bool
is_allowed fits (core.Arrive stream taken) = fits stream (taken_view taken)
is_allowed fits step = true

-- The reply tells what a step after E was answered.
abbrev pub Tells : List Entry → Entry → Reply → Type 0
Tells E (Arrive s bytes arrival answer) (reply.Arrived outcome) = outcome ≡ answer.outcome
Tells E (Tick now counts answer) (reply.Closed ticked) = ticked ≡ ticked_of (changes E) answer
Tells E (Pop row) (reply.Popped due) = option_map row_view due ≡ row
Tells E entry other = ⊥

-- The reply is one to a step of this kind.
abbrev pub answers : CoreStep → Reply → Bool
answers (core.Arrive stream taken) (reply.Arrived outcome) = true
answers (core.Tick now counts) (reply.Closed ticked) = true
answers core.Pop (reply.Popped due) = true
answers step other = false

-- The counters after a reply: an arrival is counted as it was answered.
abbrev pub counted_by : Reply → Counts → Counts
counted_by (reply.Arrived outcome) counts = after_answer outcome counts
counted_by other counts = counts

-- The greatest instant popped after a reply,
abbrev pub popped_by : Reply → ℕ → ℕ
popped_by (reply.Popped due) popped = popped_after (option_map row_view due) popped
popped_by other popped = popped

-- above which lies the instant of a row that it gives.
abbrev pub rises_by : Reply → ℕ → Bool
rises_by (reply.Popped (Some row)) popped = nat_lt popped row.instant
rises_by other popped = true
