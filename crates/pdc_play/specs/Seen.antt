-- What a script sees of a world.
use Rattle.std.specs.Prelude.{ℕ, List, Option}
use Rattle.std.specs.List.{slice_get}
use Rattle.pdc_history.specs.declared.event_fault.Fault.{Fault}
use Rattle.pdc_history.specs.declared.reply.Reply.{Reply}
use Rattle.pdc_history.specs.Asked.{Asked}
use Rattle.pdc_history.specs.World.{World, Happened}
use Rattle.pdc_world.specs.Acts.{IsWhy}
use Rattle.pdc_world.specs.Holds.{Holds, IsAnswered}
use Rattle.pdc_world.specs.Views.{WorldView}

-- What was asked was made and replied, whichever history the world held.
abbrev pub RepliesSeen : WorldView → Asked → Reply → WorldView → Type 0
RepliesSeen old asked reply new = (W : World) (H : List Happened) → Holds W H old → IsAnswered W H asked reply new

-- It may not happen for this cause, whichever history the world holds.
abbrev pub RefusesSeen : WorldView → Asked → Fault → Type 0
RefusesSeen old asked fault = (W : World) (H : List Happened) → Holds W H old → IsWhy W H asked fault

-- the frames that were sent, by their numbers
abbrev pub frames_seen : WorldView → ℕ → Option (List ℕ)
frames_seen v number = slice_get v.ledger.frames number
