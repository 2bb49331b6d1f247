-- A script that is told by a history: what is printed of it follows from the settings and the script alone.
use Rattle.std.specs.Prelude.{◌≡◌, ◌⊎◌, ℕ, List, [], ◌∷◌, Option, None, Some}
use Rattle.std.specs.Io.KnownBytes.{Appends, Consumes, IsAtEnd}
use Rattle.std.specs.List.{AllByRecursion, slice_get}
use Rattle.pdc_history.specs.declared.event_fault.Fault.{Fault}
use Rattle.pdc_history.specs.declared.event_fault.Fault.TheVariants.{PremiseBroken}
use Rattle.pdc_history.specs.declared.event_fault.Premise.TheVariants.{OneTable}
use Rattle.pdc_history.specs.declared.reply.Reply.{Reply}
use Rattle.pdc_world.specs.Headline.{Headline}
use Rattle.pdc_world.specs.Seen.{rows_of, seen_of}
use Rattle.pdc_history.specs.Asked.{Asked}
use Rattle.pdc_history.specs.History.{IsHistory}
use Rattle.pdc_history.specs.Lives.{IsRowAt}
use Rattle.pdc_history.specs.Play.{IsStepOf}
use Rattle.pdc_history.specs.World.{World, Happened, published, sent}
use Rattle.pdc_mark.specs.Stored.{first_stored}
use Rattle.pdc_mark.specs.declared.stored.Stored.{Stored}
use Rattle.pdc_play.specs.Run.{HasEnded}
use Rattle.pdc_play.specs.declared.ending.Ending.{Ending}
use Rattle.pdc_play.specs.declared.ending.Ending.TheVariants.{Refused}
use Rattle.pdc_play.specs.Printed.{fault_line}
use Rattle.pdc_play.specs.declared.any.Roles.{Roles}
use Rattle.pdc_world.specs.Acts.{IsWhy}
use Rattle.pdc_world.specs.Holds.{Holds}
use Rattle.pdc_world.specs.Opening.{IsWhyNot, world_of}
use Rattle.pdc_world.specs.Replies.{reply_of}
use Rattle.pdc_world.specs.Views.{WorldView}

-- What was asked made this happen, and that is told.
pub record Tells (W : World) (H : List Happened) (asked : Asked) (reply : Reply) (after : List Happened) : Type 0 where
  pub happened : Happened
  pub step : IsStepOf W H asked happened
  pub more : after ≡ happened ∷ H
  pub told : reply ≡ reply_of W H happened

-- the frames that were sent, by their numbers
abbrev pub frames_in : World → List Happened → ℕ → Option (List ℕ)
frames_in W H number = slice_get (sent W H) number

-- The script whose first bytes were read ended so, where the input may be at its end, and what was printed of it is told by a history of this
-- world. The headline holds of all that is seen of the world then, and each row that was published shows a block exactly where one was given
-- in time.
pub record IsTold (W : World) (start : Option (List ℕ)) (AtEnd : Type 0) (read : List ℕ) (end : Ending) (contents : Option (List ℕ)) : Type 0 where
  pub after : List Happened
  pub history : IsHistory W after
  pub ended : HasEnded (Tells W) (IsWhy W) (frames_in W) [] start AtEnd read end after contents
  pub last : WorldView
  pub holds : Holds W after last
  pub headline : Headline (seen_of last) (rows_of last)
  pub exact : AllByRecursion (IsRowAt W after) (published after)

-- these bytes were read, and the script of them is told
pub record IsReadAndTold (W : World) (remaining rest start : Option (List ℕ)) (end : Ending) (contents : Option (List ℕ)) : Type 0 where
  pub read : List ℕ
  pub consumed : Consumes remaining rest read
  pub told : IsTold W start (IsAtEnd rest) read end contents

-- It ended at once with this fault, which is told, and nothing was read.
pub record IsRefused (fault : Fault) (remaining rest start : Option (List ℕ)) (end : Ending) (contents : Option (List ℕ)) : Type 0 where
  pub is : end ≡ Refused fault
  pub unread : rest ≡ remaining
  pub written : Appends start contents (fault_line fault 0)

-- The world does not begin, for this cause.
pub record IsUnbegun (W : World) (remaining rest start : Option (List ℕ)) (end : Ending) (contents : Option (List ℕ)) : Type 0 where
  pub fault : Fault
  pub why : IsWhyNot W fault
  pub told : IsRefused fault remaining rest start end contents

-- the world of these settings over marks that store this
abbrev pub world_over : Roles → (a b m : Stored) → World
world_over roles a b m =
    world_of roles.a.life roles.b.life roles.m.life (record { a = roles.a.service.lead; b = roles.b.service.lead; m = roles.m.service.lead }) a b m

-- What comes of a script on this world: it is read and told, or the world does not begin.
abbrev pub IsPlayedOn : World → (remaining rest start contents : Option (List ℕ)) → Ending → Type 0
IsPlayedOn W remaining rest start contents end = IsReadAndTold W remaining rest start end contents ⊎ IsUnbegun W remaining rest start end contents

-- The same on the world of these settings over new marks. Settings that are not two nodes' and a merger's make no world.
abbrev pub IsPlayedBy : Option Roles → (remaining rest start contents : Option (List ℕ)) → Ending → Type 0
IsPlayedBy (Some roles) remaining rest start contents end = IsPlayedOn (world_over roles first_stored first_stored first_stored) remaining rest start contents end
IsPlayedBy None remaining rest start contents end = IsRefused (PremiseBroken OneTable) remaining rest start end contents
