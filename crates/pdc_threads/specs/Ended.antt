-- How the parts of a run ended, and which fault the run tells of them.
use Rattle.std.specs.Prelude.{◌≡◌, ℕ, ◌+◌, Bool, drop, true, false, List, [], ◌∷◌, length, map, sum, IfSome, Option, None, Some, Result, Ok, Err}
use Rattle.pdc_hub.specs.Faults.{IsOfReceiver}
use Rattle.pdc_hub.specs.Received.{AreBrought, HasReceived}
use Rattle.pdc_hub.specs.declared.fault.HubFault.{HubFault}
use Rattle.pdc_hub.specs.declared.fault.HubFault.TheVariants.{NoMemory, SinkFault, Stuck}
use Rattle.pdc_life.specs.Answer.{ReadStep, Rules}
use Rattle.pdc_life.specs.Given.{Given}
use Rattle.pdc_life.specs.declared.outcome.Outcome.{Outcome}
use Rattle.pdc_pipe.specs.declared.senders.Ended.{Ended}
use Rattle.pdc_pipe.specs.declared.senders.Ended.TheVariants as sender
use Rattle.pdc_ports.specs.Heard.{Heard, TellsFrom}
use Rattle.pdc_threads.specs.declared.receivers.Counted.{Counted}
use Rattle.pdc_threads.specs.declared.totals.Totals.{Totals}

-- How a receiver ended: what it counted, and its fault, if it had one.
pub record Ending : Type 0 where
  pub counted : Counted
  pub configured : ℕ
  pub fault : Option HubFault

-- Each of these fits what stands at its place, whose places are counted from this number on. There may be fewer of them.
abbrev pub AreFor : {S E : Type 0} (Fits : S → ℕ → E → Type 0) (number : ℕ) → List S → List E → Type 0
AreFor Fits number ss [] = Unit {0}
AreFor Fits number [] (e ∷ es) = ⊥
AreFor Fits number (s ∷ ss) (e ∷ es) = Fits s number e × AreFor Fits (number + 1) ss es

-- All that this source told was received for this stream, which brought it, and so its receiver ended.
abbrev pub HasEndedOf : {S : Type 0} (told : S → List Heard → Type 0) (Brought : ℕ → List (List ℕ × Outcome) → Type 0) → S → ℕ → Ending → Type 0
HasEndedOf told Brought source stream ending =
    HasReceived (TellsFrom told source) (Brought stream) (Unit {0}) ending.counted.taken ending.counted.refused ending.configured ending.fault

-- So a receiver ended, in a life of which so much was seen, and by a fault that it may have.
abbrev pub HasEndedAs : {S : Type 0} (rules : Rules) (named : Option Given) (told : S → List Heard → Type 0) (seen : List ReadStep) → S → ℕ → Ending → Type 0
HasEndedAs rules named told seen source stream ending = HasEndedOf told (λ s. AreBrought rules named s seen) source stream ending × IfSome ending.fault IsOfReceiver

abbrev pub ending_by : (taken refused configured : ℕ) (fault : Option HubFault) → Ending
ending_by taken refused configured fault = record { counted = record { taken = taken; refused = refused }; configured = configured; fault = fault }

abbrev pub or_else : Option HubFault → Option HubFault → Option HubFault
or_else (Some fault) other = Some fault
or_else None other = other

-- the fault of the first receiver that had one, in the order of the streams
abbrev pub first_of : List Ending → Option HubFault
first_of [] = None
first_of (e ∷ es) = or_else e.fault (first_of es)

-- The first of these were joined, and the rest not yet: each that was ended as it promised; this is the first fault of those that ended,
-- and where all is complete these are what they counted, and so many configurations they counted together.
pub record HaveJoined {H : Type 0} (Kept : H → ℕ → Ending → Type 0) (handles rest : List H) (counted : List Counted) (configured : ℕ) (fault : Option HubFault) (complete : Bool) : Type 0 where
  pub endings : List Ending
  pub are_kept : AreFor Kept 0 handles endings
  pub left : drop (length endings) handles ≡ rest
  pub first : first_of endings ≡ fault
  pub entries : complete ≡ true → counted ≡ map (λ e. e.counted) endings
  pub all_configured : complete ≡ true → configured ≡ sum (map (λ e. e.configured) endings)

-- Which fault is told: the first in the order receivers, aligner, sender. Where not all receivers could be started, or what they counted
-- not be kept, it is want of memory, behind the faults of those that ended.
abbrev pub first_fault : (receivers : Option HubFault) (complete : Bool) (aligned : Result ℕ HubFault) (sent : Ended) → Option HubFault
first_fault (Some fault) complete aligned sent = Some fault
first_fault None false aligned sent = Some NoMemory
first_fault None true (Err fault) sent = Some fault
first_fault None true (Ok published) sender.SinkFault = Some SinkFault
first_fault None true (Ok published) sender.AlignerGone = Some Stuck
first_fault None true (Ok published) sender.AtEndMark = None

abbrev pub fault_in : Result Totals HubFault → Option HubFault
fault_in (Ok totals) = None
fault_in (Err fault) = Some fault
