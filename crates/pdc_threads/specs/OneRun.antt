-- What a run did, as one life.
use Rattle.std.specs.Prelude.{◌≡◌, ◌≤◌, ℕ, Bool, true, List, [], ◌++◌, length, map, IfOk, OnOk, Result}
use Rattle.pdc_aligner.specs.Device.{HasDevice, Standing}
use Rattle.pdc_aligner.specs.Laid.{are_done, frames_of, is_done}
use Rattle.pdc_aligner.specs.Turns.{NeverFall}
use Rattle.pdc_hub.specs.Replay.{Sayings}
use Rattle.pdc_hub.specs.declared.fault.HubFault.{HubFault}
use Rattle.pdc_life.specs.Answer.{IsLife, ReadStep, Rules}
use Rattle.pdc_life.specs.Given.{Given}
use Rattle.pdc_life.specs.Life.{popped}
use Rattle.pdc_life.specs.declared.outcome.Outcome.{Outcome}
use Rattle.pdc_log.specs.Among.{IsAmong}
use Rattle.pdc_log.specs.Log.{brought, life_of, ticks_of}
use Rattle.pdc_mark.specs.declared.stored.Stored.{Stored}
use Rattle.pdc_pipe.specs.HandedOn.{HasSinkCause}
use Rattle.pdc_pipe.specs.declared.senders.Ended.{Ended}
use Rattle.pdc_ports.specs.Heard.{Heard}
use Rattle.pdc_row.specs.declared.output.Output.{Output}
use Rattle.pdc_threads.specs.Ended.{AreFor, Ending, HasEndedOf, fault_in, first_fault, first_of}
use Rattle.pdc_threads.specs.declared.totals.Totals.{Totals}

-- What a run finds, and what it leaves: what the mark stores and how it stands, and how often the sink failed.
pub record Found : Type 0 where
  pub stored : Stored
  pub standing : Standing
  pub failures : ℕ

abbrev pub found_by : (stored : Stored) (standing : Standing) (failures : ℕ) → Found
found_by stored standing failures = record { stored = stored; standing = standing; failures = failures }

-- What a receiver has stands, in this order, among what its stream brought; where all receivers came back, it is all of that.
pub record IsBrought (complete : Bool) (all own : List (List ℕ × Outcome)) : Type 0 where
  pub among : IsAmong own all
  pub whole : complete ≡ true → all ≡ own

-- There is one list of steps, whose life is one of what is given. Each receiver heard its own source, and what that gave is what its stream
-- brought in the life, in order, with the answers that it has there; where a thread could not be made, it stands among that. The ticker gave
-- the instants of the ticks, and of one more at most, which failed before it was a step; and no count falls from those that the mark stored
-- before, over those that the ticks were handed, to those that it stores then. All rows that were due were popped before the next tick, and in
-- the end where the run is Ok. What the sink took are the first of the frames of the life, in
-- order; all of them where the run is Ok, which tells how many rows were popped. The entries of the totals are what the receivers counted; or
-- the run tells the first fault of its parts: by the mark's device only where that failed or a fault stood on it, and by the sink only where that failed.
pub record IsOneRun {S : Type 0} (rules : Rules) (Says : Sayings) (g : Given) (output : Output) (rate every : ℕ) (told : S → List Heard → Type 0) (sources : List S)
    (Gave : List ℕ → Type 0) (Took : List (List ℕ) → Type 0) (before after : Found) (outcome : Result Totals HubFault) : Type 0 where
  pub steps : List ReadStep
  pub is_life : IsLife rules Says g (life_of rules g steps)
  pub complete : Bool
  pub endings : List Ending
  pub received : AreFor (HasEndedOf told (λ s. IsBrought complete (brought s (life_of rules g steps)))) 0 sources endings
  pub all_came : complete ≡ true → length endings ≡ length sources
  pub failed : List ℕ
  pub ticked : Gave (map (λ t. t.0) (ticks_of steps) ++ failed)
  pub one_failed : length failed ≤ 1
  pub counts : NeverFall before.stored.counts (ticks_of steps) after.stored.counts
  pub all_due : are_done (life_of rules g steps) ≡ true
  pub given : List (List ℕ)
  pub rest : List (List ℕ)
  pub took : Took given
  pub sent : frames_of g output rate every (life_of rules g steps) ≡ given ++ rest
  pub whole : OnOk outcome ((complete ≡ true) × (failed ≡ []) × (rest ≡ []) × (is_done (life_of rules g steps) ≡ true))
  pub entries : IfOk outcome (λ totals. totals.receivers.items ≡ map (λ e. e.counted) endings)
  pub published : IfOk outcome (λ totals. totals.published ≡ length (popped (life_of rules g steps)))
  pub aligned : Result ℕ HubFault
  pub device : HasDevice before.standing after.standing aligned
  pub ended : Ended
  pub sink : HasSinkCause ended before.failures after.failures
  pub told_fault : fault_in outcome ≡ first_fault (first_of endings) complete aligned ended
