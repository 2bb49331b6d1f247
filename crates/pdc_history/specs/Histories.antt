-- What the frames that were sent are to the history of a world.
use Rattle.std.specs.Prelude.{◌≡◌, ℕ, false, List, [], ◌∷◌}
use Rattle.std.specs.List.{Contains}
use Rattle.pdc_history.specs.Asked as asked
use Rattle.pdc_history.specs.Asked.{IsFault}
use Rattle.pdc_history.specs.Event as events
use Rattle.pdc_history.specs.History.{IsHistory, MayHappen}
use Rattle.pdc_history.specs.World.{Happened, Sends, World, sent, sent_at}
use Rattle.pdc_history.specs.declared.send_fault.SendFault.{SendFault}
use Rattle.pdc_history.specs.declared.send_fault.SendFault.TheVariants.{Foreign, NoMemory, OtherBody, OtherSection}
use Rattle.pdc_history.specs.Sent.{IsOfNone, SentView, with_frame}

-- These are the frames that were sent in this history, and the PMUs are those of node A's settings.
pub record IsSentIn (W : World) (H : List Happened) (v : SentView) : Type 0 where
  pub frames : sent W H ≡ v.frames
  pub settings : W.a.settings ≡ v.settings

-- In each history with these frames, the sending of these bytes may happen.
abbrev pub MayBeSent : SentView → (bytes : List ℕ) → Type 0
MayBeSent v bytes = (W : World) (H : List Happened) → IsSentIn W H v → MayHappen W H (events.Send bytes)

-- In each, it is a fault, for this cause. Want of memory is none of its faults.
abbrev pub HasCause : SentView → (bytes : List ℕ) → SendFault → Type 0
HasCause v bytes Foreign = (W : World) (H : List Happened) → IsSentIn W H v → IsFault W H (asked.Send bytes) asked.Foreign
HasCause v bytes OtherBody = (W : World) (H : List Happened) → IsSentIn W H v → IsFault W H (asked.Send bytes) asked.OtherBody
HasCause v bytes OtherSection = (W : World) (H : List Happened) → IsSentIn W H v → IsFault W H (asked.Send bytes) asked.OtherSection
HasCause v bytes NoMemory = v.has_room ≡ false

-- In every history, what is not sent by a PMU is a frame of none.
abbrev pub OthersSendNone : Type 0
OthersSendNone =
    (W : World) (H : List Happened) (h : Happened) (v : SentView) (bytes : List ℕ) → IsHistory W (h ∷ H) → IsSentIn W H v →
    Contains (sent_at W H h) bytes → (h ≡ Sends bytes → ⊥) → IsOfNone v.settings bytes

-- What happens next adds its frame to those that were sent, if it sends one.
abbrev pub OneIsAdded : Type 0
OneIsAdded =
    (W : World) (H : List Happened) (h : Happened) (v : SentView) (bytes : List ℕ) → IsSentIn W H v → sent_at W H h ≡ bytes ∷ [] →
    IsSentIn W (h ∷ H) (with_frame v bytes)

abbrev pub NoneIsAdded : Type 0
NoneIsAdded = (W : World) (H : List Happened) (h : Happened) (v : SentView) → IsSentIn W H v → sent_at W H h ≡ [] → IsSentIn W (h ∷ H) v
