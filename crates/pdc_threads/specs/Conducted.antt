-- All that a run promises, over its inputs.
use Rattle.std.specs.Prelude.{◌≡◌, ℕ, [], IsErrOf, List, false, length, map, Option, Result, Some, true}
use Rattle.pdc_aligner.specs.declared.pace.Pace.{Pace}
use Rattle.pdc_hub.specs.Pops.{popped_by}
use Rattle.pdc_hub.specs.Replay.{Sayings}
use Rattle.pdc_hub.specs.declared.fault.HubFault.{HubFault}
use Rattle.pdc_hub.specs.declared.fault.HubFault.TheVariants.{NoMemory}
use Rattle.pdc_hub.specs.declared.intake.Intake.{Intake}
use Rattle.pdc_pipe.specs.HandedOn.{HasHandedOn, HasSinkCause}
use Rattle.pdc_pipe.specs.Pipe.{log}
use Rattle.pdc_pipe.specs.declared.ends.Sent.{Sent}
use Rattle.pdc_pipe.specs.declared.message.Message.{Message}
use Rattle.pdc_pipe.specs.declared.pipe.Log.{Log}
use Rattle.crossbeam_channel.specs.Claims.{Pass, view}
use Rattle.pdc_life.specs.Answer.{Rules}
use Rattle.pdc_life.specs.Given.{Given}
use Rattle.pdc_mark.specs.declared.mark.Mark.{Ghosts}
use Rattle.pdc_row.specs.declared.output.Output.{Output}
use Rattle.pdc_ports.specs.Heard.{Heard}
use Rattle.pdc_publisher.specs.Publisher.{last_in, lead_in, output_in}
use Rattle.pdc_publisher.specs.declared.publisher.Publisher.{Publisher}
use Rattle.pdc_threads.specs.OneRun.{Found, IsOneRun}
use Rattle.pdc_threads.specs.Ran.{found_in}
use Rattle.pdc_threads.specs.Run.{ArePublished, GivesFrom, HasEach, HasRun, IsCausedByMark, IsCausedBySink, IsSummed}
use Rattle.pdc_threads.specs.Wanted.{LackedRoom}
use Rattle.pdc_threads.specs.declared.crew.Finished.{Finished}
use Rattle.pdc_threads.specs.declared.crew.Manned.{Manned}
use Rattle.pdc_threads.specs.declared.totals.Totals.{Totals}

-- A publisher as a run finds or leaves it: what its frames say, how many instants it reserves ahead, the last one that it published, and how
-- many rows were popped for it; and what its mark stores, how that stands, and how often the sink failed.
pub record Publishing : Type 0 where
  pub output : Output
  pub lead : ℕ
  pub last : ℕ
  pub popped : ℕ
  pub found : Found

abbrev pub publishing_of : {M : Type 0} {marks : Ghosts M} → Publisher M marks → (popped failures : ℕ) → Publishing
publishing_of publisher popped failures =
    record { output = output_in publisher; lead = lead_in publisher; last = last_in publisher; popped = popped; found = found_in publisher failures }

-- Totals and entries, causes, what was put and sent, and what the run did as one life: each as `run` says it.
pub record HasConducted {S : Type 0} (rules : Rules) (Says : Sayings) (named : Option Given) (told : S → List Heard → Type 0) (sources : List S) (pace : Pace) (Gave : List ℕ → Type 0) (Took : List (List ℕ) → Type 0) (before after : Publishing) (outcome : Result Totals HubFault) : Type 0 where
  pub totals : IsSummed outcome
  pub lacked : IsErrOf outcome NoMemory → LackedRoom
  pub each : HasEach outcome (length sources)
  pub kept : (after.output ≡ before.output) × (after.lead ≡ before.lead)
  pub sink : IsCausedBySink outcome before.found.failures after.found.failures
  pub mark : IsCausedByMark outcome before.found.standing after.found.standing
  pub popped : ArePublished outcome before.popped after.popped
  pub run : HasRun Took before.last after.found.stored.floor outcome
  pub one : (g : Given) → named ≡ Some g → ∥ IsOneRun rules Says g before.output pace.rate pace.layout_every told sources Gave Took before.found after.found outcome ∥₁

-- So a run did it that is over, of the crew that it was given.
abbrev pub HasRunAs : {C N S W P M I K : Type 0} {core : _} {reads : _} {naming : _} {ledgers : _} {logged : _} {g : _} {h : _} → Intake C N S core reads naming ledgers logged
    → (told : P → List Heard → Type 0) (gave : I → List ℕ → Type 0) (took : K → K → List (List ℕ) → Type 0) (failures_of : K → ℕ) → Manned N W P M I K g → Finished N M K h → Type 0
HasRunAs {core = core} {reads = reads} {naming = naming} intake told gave took failures_of manned over =
    HasConducted core.rules (reads.says intake.settings.now) naming.given told (map (λ i. i.source) manned.inputs.items) manned.pace (GivesFrom gave manned.aligner.ticker) (took manned.sink over.ran.sink)
    (publishing_of manned.aligner.publisher (popped_by manned.aligner.pops) (failures_of manned.sink)) (publishing_of over.ran.publisher (popped_by over.pops) (failures_of over.ran.sink)) over.ran.outcome

-- So the sender's thread ended: its pass has taken these messages, of which the sink took the first frames.
abbrev pub HasSentOut : {K : Type 0} (IsSeat : Pass Message Log → Type 0) (took : K → K → List (List ℕ) → Type 0) (failures_of : K → ℕ) → K → Sent K → Type 0
HasSentOut IsSeat took failures_of sink sent =
    IsSeat sent.pass × (view sent.pass ≡ log false true false [] (view sent.pass).taken) × HasHandedOn (took sink sent.sink) (view sent.pass).taken sent.ended × HasSinkCause sent.ended (failures_of sink) (failures_of sent.sink)
