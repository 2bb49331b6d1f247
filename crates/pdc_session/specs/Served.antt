-- Sessions over whole streams: for every way to cut a stream into pieces, a session that was fed them was told what the
-- frames of the stream tell, and answered them in order, up to the first fault of the stream or the first want of memory.
use Rattle.std.specs.Prelude.{◌≡◌, ℕ, List, [], ◌∷◌, ◌++◌, false, flat_map, Option, Some, None}
use Rattle.std.specs.List.{All}
use Rattle.pdc_frame.specs.Bytes.{AreBytes}
use Rattle.pdc_frame.specs.declared.fault.FrameFault.{FrameFault}
use Rattle.pdc_frame.specs.declared.step.Step.TheVariants.{More}
use Rattle.pdc_frame.specs.Stream.{Held, HasTaken, IsBad, IsWhole, Splits}
use Rattle.pdc_frame.specs.declared.command.Command.{Command}
use Rattle.pdc_session.specs.declared.fault.SessionFault.{SessionFault}
use Rattle.pdc_session.specs.declared.fault.SessionFault.TheVariants.{BadStream, NoMemory}
use Rattle.pdc_session.specs.declared.subscription.Subscription.{Subscription}
use Rattle.pdc_session.specs.declared.serving.Serving.{Serving}
use Rattle.pdc_session.specs.Session.{AreTold, SessionView, replies_of, told_after_all}

-- data is off, and no frame was ignored
abbrev pub told_nothing : Subscription
told_nothing = record { on = false; ignored = 0 }

-- a session to which no byte came yet
pub record IsNew (s : SessionView) : Type 0 where
  pub told : s.told ≡ told_nothing
  pub ended : s.ended ≡ None
  pub step : s.held.step ≡ More
  pub stream : HasTaken [] [] s.held

-- Where a session stands in its stream. It goes on: these are the whole frames so far, and all were answered.
abbrev pub Stands : Option SessionFault → (stream : List ℕ) → (frames : List (List ℕ)) → (commands answered : List (Option Command)) → Held → Type 0
Stands None stream frames commands answered held = (commands ≡ answered) × HasTaken stream frames held × (IsBad held.step → ⊥)
-- The stream has a fault behind these frames, and all were answered.
Stands (Some BadStream) stream frames commands answered held = (commands ≡ answered) × (rest : List ℕ) × (fault : FrameFault) × Splits stream frames rest (Some fault)
-- The stream begins with these frames, and all but the last were answered.
Stands (Some NoMemory) stream frames commands answered held =
    (last : Option Command) × (commands ≡ answered ++ last ∷ []) × (rest : List ℕ) × (stream ≡ flat_map (λ frame. frame) frames ++ rest) × All IsWhole frames

-- A session was fed this stream, with these replies behind what there was: it was told what its frames tell, and answered them in order.
-- How the stream was cut into pieces isn't spoken of.
pub record HasServed (serving : Serving) (stream base : List ℕ) (s : SessionView) (out : List ℕ) : Type 0 where
  pub frames : List (List ℕ)
  pub commands : List (Option Command)
  pub answered : List (Option Command)
  pub tells : AreTold s.id frames commands
  pub told : s.told ≡ told_after_all told_nothing commands
  pub replies : out ≡ base ++ replies_of s.id serving answered
  pub stands : Stands s.ended stream frames commands answered s.held

-- With a piece a session goes on from one state to another, whatever stream came before.
abbrev pub IsFed : (serving : Serving) (piece : List ℕ) (s : SessionView) (out : List ℕ) (t : SessionView) (grown : List ℕ) → Type 0
IsFed serving piece s out t grown = (stream base : List ℕ) → HasServed serving stream base s out → HasServed serving (stream ++ piece) base t grown

-- piece after piece
abbrev pub AreFed : (serving : Serving) (pieces : List (List ℕ)) (s : SessionView) (out : List ℕ) (t : SessionView) (grown : List ℕ) → Type 0
AreFed serving [] s out t grown = (s ≡ t) × (out ≡ grown)
AreFed serving (piece ∷ pieces) s out t grown = (u : SessionView) × (mid : List ℕ) × IsFed serving piece s out u mid × AreFed serving pieces u mid t grown

-- However a stream was cut into pieces, it was fed whole.
abbrev pub PiecesAreTheStream : Type 0
PiecesAreTheStream = (serving : Serving) (pieces : List (List ℕ)) (s t : SessionView) (base grown : List ℕ) → IsNew s
    → AreFed serving pieces s base t grown → HasServed serving (flat_map (λ piece. piece) pieces) base t grown

-- Two sessions of one id that were fed one stream, and met no want of memory, were told the same, answered the same, and have ended
-- alike.
abbrev pub StreamsAreAnsweredInOneWay : Type 0
StreamsAreAnsweredInOneWay = (serving : Serving) (stream base : List ℕ) (s t : SessionView) (out grown : List ℕ) → s.id ≡ t.id
    → (s.ended ≡ Some NoMemory → ⊥) → (t.ended ≡ Some NoMemory → ⊥) → HasServed serving stream base s out → HasServed serving stream base t grown
    → (s.told ≡ t.told) × (s.ended ≡ t.ended) × (out ≡ grown)

-- Want of memory only cuts the replies short: what was appended before it begins what a session with memory enough appends.
abbrev pub MemoryCutsShort : Type 0
MemoryCutsShort = (serving : Serving) (stream base : List ℕ) (s t : SessionView) (out grown : List ℕ) → AreBytes stream → s.id ≡ t.id
    → (t.ended ≡ Some NoMemory → ⊥) → HasServed serving stream base s out → HasServed serving stream base t grown
    → (more : List ℕ) × (grown ≡ out ++ more)
