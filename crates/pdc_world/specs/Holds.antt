-- The histories that a world holds, and what its steps make of them.
use Rattle.std.specs.Prelude.{◌++◌, ◌+◌, ◌∷◌, ◌≡◌, length, List}
use Rattle.pdc_history.specs.{Asked.{Asked}, History.{IsHistory}, Play.{IsPlayOf, IsStepOf}, World.{Happened, kind_of, lead_of, Who, World}}
use Rattle.pdc_history.specs.{declared.event_fault.WorldFault.{WorldFault}, declared.reply.Reply.{Reply}}
use Rattle.pdc_world.specs.{Acts.{HasCome, IsWhy, Keeps}, Replies.{reply_of}, Seats.{CoreOf, kind_in, seat_of, station_of}, Views.{StationView, WorldView}}

-- The station of a seat has the settings and the lead of this core of the world, and has come to where the history left it.
pub record IsSeated (W : World) (H : List Happened) (who : Who) (station : StationView (CoreOf who)) : Type 0 where
  pub kind : kind_in who station.core ≡ kind_of W who
  pub lead : station.lead ≡ lead_of W who
  pub come : HasCome W H who (seat_of who station)

-- The world is that of this history: in each seat the core has its settings and stands for its present life, the mark is the one that was
-- stored, and what was sent and published is what the history says.
pub record Holds (W : World) (H : List Happened) (v : WorldView) : Type 0 where
  pub history : IsHistory W H
  pub seats : (who : Who) → IsSeated W H who (station_of v who)
  pub ledger : Keeps W H v.ledger

-- There is a history that it holds: that there were none is absurd.
abbrev pub HoldsSome : WorldView → Type 0
HoldsSome v = ((W : World) (H : List Happened) → Holds W H v → ⊥) → ⊥

-- What was asked was made: the world holds the history with that more, and this is what is replied.
pub record IsAnswered (W : World) (H : List Happened) (asked : Asked) (reply : Reply) (new : WorldView) : Type 0 where
  pub happened : Happened
  pub step : IsStepOf W H asked happened
  pub holds : Holds W (happened ∷ H) new
  pub told : reply ≡ reply_of W H happened

-- All of these were made, one after the other.
pub record IsPlayed (W : World) (H : List Happened) (asked : List Asked) (new : WorldView) : Type 0 where
  pub after : List Happened
  pub play : IsPlayOf W H asked after
  pub holds : Holds W after new

-- Those before one of them were made, and that one is a fault: its number, from 1, is told, and the world is that after those before it.
pub record IsCutShort (W : World) (H : List Happened) (asked : List Asked) (fault : WorldFault) (new : WorldView) : Type 0 where
  pub before : List Asked
  pub it : Asked
  pub behind : List Asked
  pub split : asked ≡ before ++ it ∷ behind
  pub at : fault.at ≡ length before + 1
  pub played : IsPlayed W H before new
  pub why : IsWhy W played.after it fault.fault
