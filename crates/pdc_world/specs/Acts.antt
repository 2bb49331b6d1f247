-- What an act of one core makes of a world: of the core and its mark, and of what was sent and published.
use Rattle.std.specs.Prelude.{[], ◌∷◌, ◌≡◌, ◌≤◌, Bool, IfErr, IfOk, length, List, None, Option, Result, Some, true, ℕ}
use Rattle.pdc_frame.specs.declared.limits.TheConstants.{MAX_SIZE}
use Rattle.pdc_row.specs.RowView.{RowView}
use Rattle.pdc_row.specs.{declared.output.Output.{Output}, Layout.{wire_of}}
use Rattle.pdc_life.specs.{declared.given.Settings.{Settings}, Given.{Given}, Life.{Entry}, Published.{layout_wire}}
use Rattle.pdc_history.specs.{Asked.{Asked, Cause, Foreign, IsFault, OtherBody, OtherSection}, History.{IsHistory}, Play.{IsStepOf}, World.{given_in, Happened, is_same, kind_of, lead_of, life_of, mark_of, Sends, sent, Who, World}}
use Rattle.pdc_history.specs.{declared.send_fault.SendFault.{SendFault}, Sent.{IsOfNone}}
use Rattle.pdc_history.specs.{declared.event_fault.Fault.{Fault}, declared.event_fault.Premise.TheVariants.{Genuine, OneBody, OneSection, OneTable}, declared.reply.Published.{Published}, declared.reply.Reply.{Reply}}
use Rattle.pdc_station.specs.declared.fault.StopFault.{StopFault}
use Rattle.pdc_world.specs.{Replies.{listed, published_as, reply_of, whose_is}, Seats.{Seat}, Views.{LedgerView}}
use Rattle.pdc_history.specs.declared.event_fault.Fault.TheVariants as fault
use Rattle.pdc_history.specs.Asked as asked
use Rattle.pdc_history.specs.declared.send_fault.SendFault.TheVariants as send
use Rattle.pdc_station.specs.declared.fault.StopFault.TheVariants as stop

-- What is fixed of the seat is that of this core of the world.
pub record IsSeat (W : World) (who : Who) (seat : Seat) : Type 0 where
  pub kind : seat.kind ≡ kind_of W who
  pub lead : seat.lead ≡ lead_of W who

-- It stands for its present life, and this is its mark.
pub record HasCome (W : World) (H : List Happened) (who : Who) (seat : Seat) : Type 0 where
  pub stands : seat.stands (given_in W H who) (life_of H who)
  pub mark : seat.mark ≡ mark_of W H who

-- The ledger tells what was sent and published.
pub record Keeps (W : World) (H : List Happened) (ledger : LedgerView) : Type 0 where
  pub table : ledger.table ≡ W.a.settings
  pub frames : ledger.frames ≡ sent W H
  pub published : ledger.published ≡ listed W H

-- All this of a seat and the ledger, after a history.
pub record IsPart (W : World) (H : List Happened) (who : Who) (seat : Seat) (ledger : LedgerView) : Type 0 where
  pub history : IsHistory W H
  pub one : IsSeat W who seat
  pub come : HasCome W H who seat
  pub keeps : Keeps W H ledger

-- There is a history of which they are a part: that there were none is absurd.
abbrev pub IsSomePart : Who → Seat → LedgerView → Type 0
IsSomePart who seat ledger = ((W : World) (H : List Happened) → IsPart W H who seat ledger → ⊥) → ⊥

-- it is no other core's
abbrev pub is_own : Who → Happened → Bool
is_own who (Sends bytes) = true
is_own who h = is_same (whose_is h) who

-- What was asked was made: something happened to this core alone, and its seat and the ledger are those of the history with that more.
-- This is what is replied.
pub record IsAct (W : World) (H : List Happened) (who : Who) (asked : Asked) (seat : Seat) (ledger : LedgerView) (reply : Reply) : Type 0 where
  pub happened : Happened
  pub step : IsStepOf W H asked happened
  pub own : is_own who happened ≡ true
  pub come : HasCome W (happened ∷ H) who seat
  pub keeps : Keeps W (happened ∷ H) ledger
  pub told : reply ≡ reply_of W H happened

-- The fault tells why what was asked may not happen; for want of memory only where nothing else stands in its way. No event breaks the
-- agreement of settings.
abbrev pub IsWhy : World → List Happened → Asked → Fault → Type 0
IsWhy W H what (fault.PremiseBroken OneBody) = IsFault W H what OtherBody
IsWhy W H what (fault.PremiseBroken OneSection) = IsFault W H what OtherSection
IsWhy W H what (fault.PremiseBroken Genuine) = IsFault W H what Foreign
IsWhy W H what (fault.PremiseBroken OneTable) = ⊥
IsWhy W H what fault.NoSuchFrame = IsFault W H what asked.NoSuchFrame
IsWhy W H what fault.StartsUsedUp = IsFault W H what asked.StartsUsedUp
IsWhy W H what fault.NoMemory = (cause : Cause) → IsFault W H what cause → ⊥

-- The contract of an act. Of whatever history the seat and the ledger are a part: what was asked was made of them,
abbrev pub IsMade : Who → Asked → (before after : Seat) → (old new : LedgerView) → Result Reply Fault → Type 0
IsMade who asked before after old new result =
    (W : World) (H : List Happened) → IsPart W H who before old → IfOk result (IsAct W H who asked after new)

-- or the fault tells why not.
abbrev pub IsRefused : Who → Asked → (before : Seat) → (old : LedgerView) → Result Reply Fault → Type 0
IsRefused who asked before old result = (W : World) (H : List Happened) → IsPart W H who before old → IfErr result (IsWhy W H asked)

-- the layout that a tick adds to what is sent, by the change number that it tells
abbrev pub layouts_of : (change : Option ℕ) → Given → List Entry → List (List ℕ)
layouts_of None g E = []
layouts_of (Some change) g E = layout_wire g E 0 ∷ []

-- the frame that a row adds to what is sent, and how it is listed, if there is one
abbrev pub frames_with : Output → Option RowView → List (List ℕ)
frames_with output None = []
frames_with output (Some row) = wire_of output row ∷ []

abbrev pub listed_with : Who → (number : ℕ) → Option RowView → List Published
listed_with whose number None = []
listed_with whose number (Some row) = published_as whose number row ∷ []

-- There is a life for which a core stands, whose layout is no longer than a frame may be, and no PMU's frame: that there were none is
-- absurd.
abbrev pub IsSomeFrame : (Given → List Entry → Type 0) → Settings → Type 0
IsSomeFrame Stands settings =
    ((g : Given) (E : List Entry) → Stands g E → length (layout_wire g E 0) ≤ MAX_SIZE → IsOfNone settings (layout_wire g E 0) → ⊥) → ⊥

-- A PMU sent these bytes, and nothing else happened.
pub record IsSend (W : World) (H : List Happened) (bytes : List ℕ) (ledger : LedgerView) (reply : Reply) : Type 0 where
  pub step : IsStepOf W H (asked.Send bytes) (Sends bytes)
  pub keeps : Keeps W (Sends bytes ∷ H) ledger
  pub told : reply ≡ reply_of W H (Sends bytes)

-- the faults of a world that a refused send and a refused stop are
abbrev pub fault_of_send : SendFault → Fault
fault_of_send send.Foreign = fault.PremiseBroken Genuine
fault_of_send send.OtherBody = fault.PremiseBroken OneBody
fault_of_send send.OtherSection = fault.PremiseBroken OneSection
fault_of_send send.NoMemory = fault.NoMemory

abbrev pub fault_of_stop : StopFault → Fault
fault_of_stop stop.NoMemory = fault.NoMemory
fault_of_stop stop.StartsUsedUp = fault.StartsUsedUp

-- the frame that was written for a row, if there is one
abbrev pub frames_if : (bytes : List ℕ) → Option RowView → List (List ℕ)
frames_if bytes None = []
frames_if bytes (Some row) = bytes ∷ []
