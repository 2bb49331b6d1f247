-- How the receivers' threads begin and end.
use Rattle.std.specs.Prelude.{◌≡◌, ◌<◌, ℕ, List, [], Option, Some}
use Rattle.pdc_hub.specs.declared.intake.Intake.{Intake}
use Rattle.pdc_hub.specs.declared.intake.Inlet.{Inlet}
use Rattle.pdc_hub.specs.declared.shares.Shares.{Shares}
use Rattle.pdc_life.specs.Answer.{Rules}
use Rattle.pdc_life.specs.Given.{Given}
use Rattle.pdc_ports.specs.Heard.{Heard}
use Rattle.pdc_threads.specs.Ended.{Ending, HasEndedAs, HaveJoined, ending_by}
use Rattle.pdc_hub.specs.Counted.{HaveCountedNone}
use Rattle.pdc_threads.specs.Shares.{AreParts}
use Rattle.pdc_threads.specs.declared.delivered.Delivered.{Delivered}
use Rattle.pdc_threads.specs.declared.receivers.Joined.{Joined}

-- The settings of the intake are those that are named, and it has the stream of this place, whose share is one part that has counted nothing.
abbrev pub IsPlaceAt : {C N S : Type 0} {core : _} {reads : _} {naming : _} {ledgers : _} {logged : _} → Intake C N S core reads naming ledgers logged → Inlet N → Type 0
IsPlaceAt {reads = reads} {naming = naming} intake place =
    (naming.settings ≡ Some intake.settings.now) × (place.stream < reads.streams intake.settings.now) × AreParts 1 place.shares × HaveCountedNone place.shares

-- All that this source told was received for this stream, and so its thread ended: with what it hands back.
abbrev pub HasServed : {N S : Type 0} (rules : Rules) (named : Option Given) (told : S → List Heard → Type 0) → S → (stream : ℕ) → Delivered N → Type 0
HasServed rules named told source stream over = HasEndedAs rules named told over.shares.front source stream (ending_by over.taken over.refused over.shares.configured.amount over.fault)

-- All that were started were joined, each of which ended as it promised; with these shares, and so it is told of them.
abbrev pub AllJoined : {H N : Type 0} (Kept : H → Ending → Type 0) (started : List H) → Shares N → Joined → Type 0
AllJoined Kept started shares joined = HaveJoined (λ handle place ending. Kept handle ending) started [] joined.receivers.items shares.configured.amount joined.fault joined.complete
