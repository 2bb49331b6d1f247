-- What a connection gave of the streams that it made, one after the other.
use Rattle.std.specs.Prelude.{◌≡◌, ℕ, List, [], ◌∷◌, ◌++◌, map, Option, None, Some}
use Rattle.std.specs.List.{flat_map}
use Rattle.pdc_frame.specs.Stream.{Held}
use Rattle.pdc_ports.specs.Heard.{Heard, Gave}
use Rattle.pdc_network.specs.Dialed.{Dialed, made_of}
use Rattle.pdc_network.specs.Received.{unless_idle}
use Rattle.pdc_network.specs.Streamed.{HasRun, HaveEnded, IsDone}

-- All streams but the last one have ended, and the last one is this.
pub record IsLast {T : Type 0} (remaining contents : T → Option (List ℕ)) (id : ℕ) (made : List T) (now : T) (held : Held) (unread : List ℕ) (frames : List (List (List ℕ))) : Type 0 where
  pub others : List T
  pub one : T
  pub in_order : made ≡ others ++ one ∷ []
  pub before : List (List (List ℕ))
  pub latest : List (List ℕ)
  pub one_by_one : frames ≡ before ++ latest ∷ []
  pub have_ended : HaveEnded remaining contents id others before
  pub has_run : HasRun remaining contents id one now held unread latest

-- These streams were made, and of each these frames came. Where there is a connection it is the last one's; where there is none, all have
-- ended.
abbrev pub HaveCome : {T : Type 0} (remaining contents : T → Option (List ℕ)) (id : ℕ) (made : List T) → (now : Option T) → Held → (unread : List ℕ) → (frames : List (List (List ℕ))) → Type 0
HaveCome remaining contents id made None held unread frames = HaveEnded remaining contents id made frames
HaveCome remaining contents id made (Some now) held unread frames = IsLast remaining contents id made now held unread frames

-- Where there is a connection, nothing is left to take of its stream.
abbrev pub MayEnd : {T : Type 0} (now : Option T) → Held → (unread : List ℕ) → Type 0
MayEnd None held unread = Unit {0}
MayEnd (Some now) held unread = IsDone held unread

-- The dialer's calls were these, and what was heard is exactly the frames that came of the streams that they made: once each, in order,
-- stream by stream, with pauses anywhere. That a stream ended or failed, or was not made, is a pause.
pub record HasGivenAll {D T : Type 0} (dialed : D → List (Dialed T) → Type 0) (remaining contents : T → Option (List ℕ)) (id : ℕ) (dialer : D) (now : Option T) (held : Held) (unread : List ℕ) (heard : List Heard) : Type 0 where
  pub calls : List (Dialed T)
  pub are_all : dialed dialer calls
  pub frames : List (List (List ℕ))
  pub have_come : HaveCome remaining contents id (flat_map made_of calls) now held unread frames
  pub same : flat_map unless_idle heard ≡ map Gave (flat_map (λ one. one) frames)
