-- What a world that was asked these things, one after the other, is; and what it tells.
use Rattle.std.specs.Prelude.{[], ◌+◌, ◌∷◌, ◌≡◌, Bool, if◌then◌else◌, length, List, None, Option, Some, ℕ}
use Rattle.pdc_row.specs.RowView.{RowView}
use Rattle.pdc_life.specs.{declared.outcome.Outcome.{Outcome}, Life.{Arrive, changes, Entry, is_adoption, Tick}}
use Rattle.pdc_history.specs.{Asked.{Asked, IsReadOf}, Event.{Event, happens}, History.{IsHistory, MayHappen}, World.{Comes, Ends, Happened, life_of, PassesBy, Publishes, Sends, sent, Ticks, World}}

-- What was asked reads as an event that may happen, and this is what it made happen.
pub record IsStepOf (W : World) (H : List Happened) (asked : Asked) (h : Happened) : Type 0 where
  pub event : Event
  pub read : IsReadOf W H asked event
  pub may : MayHappen W H event
  pub made : h ≡ happens W H event

-- After H these were asked, the first of them first, and each was made: this is the history then.
abbrev pub IsPlayOf : World → List Happened → List Asked → List Happened → Type 0
IsPlayOf W H [] after = after ≡ H
IsPlayOf W H (asked ∷ more) after = (h : Happened) × IsStepOf W H asked h × IsPlayOf W (h ∷ H) more after

-- It is one history, and a history of the world: what is asked determines all that happens.
abbrev pub StepsAreOne : Type 0
StepsAreOne = (W : World) (H : List Happened) (asked : Asked) (a b : Happened) → IsStepOf W H asked a → IsStepOf W H asked b → a ≡ b

abbrev pub PlaysAreOne : Type 0
PlaysAreOne = (W : World) (H : List Happened) (asked : List Asked) (a b : List Happened) → IsPlayOf W H asked a → IsPlayOf W H asked b → a ≡ b

abbrev pub PlaysAreHistories : Type 0
PlaysAreHistories = (W : World) (H : List Happened) (asked : List Asked) (after : List Happened) → IsHistory W H → IsPlayOf W H asked after → IsHistory W after

-- what is told of one thing that happened
pub data Told : Type 0 where
  -- a frame was sent: its number among all that were, from 0
  SentAs : (number : ℕ) → Told
  Answered : (outcome : Outcome) → Told
  -- the core has no such stream
  PassedBy : Told
  -- a tick: how many rows it closed, the change number where it adopted, and whether change numbers are used up
  Closed : (rows : ℕ) (change : Option ℕ) (used_up : Bool) → Told
  Gave : (row : Option RowView) → Told
  -- a life began
  Began : (start floor : ℕ) → Told

abbrev pub told_of_entry : List Entry → Entry → Told
told_of_entry E (Arrive stream bytes arrival answer) = Answered answer.outcome
told_of_entry E (Tick now counts answer) = Closed (length answer.rows) (if is_adoption (Tick now counts answer) then Some (changes E + 1) else None) answer.used_up
told_of_entry E e = PassedBy

-- What is told of this, which happened after H.
abbrev pub told_of : World → List Happened → Happened → Told
told_of W H (Sends bytes) = SentAs (length (sent W H))
told_of W H (Comes who entry) = told_of_entry (life_of H who) entry
told_of W H (PassesBy who) = PassedBy
told_of W H (Ticks who entry) = told_of_entry (life_of H who) entry
told_of W H (Publishes who row) = Gave row
told_of W H (Ends who mark) = Began mark.start mark.floor
