-- What the aligner of a run is given, and what it did.
use Rattle.std.specs.Prelude.{◌≡◌, ◌≤◌, ℕ, Bool, true, List, [], length, IfErr, IfOk, OnOk, Result, Some}
use Rattle.pdc_aligner.specs.Device.{HasDevice, IsOfAligner, standing_of}
use Rattle.pdc_aligner.specs.Laid.{AreDone, IsDone, IsLaid, IsLaidBut}
use Rattle.pdc_aligner.specs.Opened.{IsOpenedWith}
use Rattle.pdc_aligner.specs.Rate.{IsAtRate}
use Rattle.pdc_aligner.specs.Sequence.{HasPutAll, Rises, instants_of}
use Rattle.pdc_aligner.specs.Turns.{HasTicked}
use Rattle.pdc_aligner.specs.declared.aligner.Aligner.{Aligner}
use Rattle.pdc_aligner.specs.declared.pace.Pace.{Pace}
use Rattle.pdc_hub.specs.Pops.{popped_by}
use Rattle.pdc_hub.specs.declared.fault.HubFault.{HubFault}
use Rattle.pdc_hub.specs.declared.intake.Intake.{Intake}
use Rattle.pdc_life.specs.Given.{Given}
use Rattle.pdc_log.specs.Log.{ticks_of}
use Rattle.pdc_pipe.specs.Writing.{IsOpen, put_by}
use Rattle.pdc_publisher.specs.Publisher.{last_in, output_in}
use Rattle.pdc_threads.specs.Ran.{PublishesAs, stored_in}
use Rattle.pdc_threads.specs.Run.{GivesFrom}
use Rattle.pdc_hub.specs.Pops.{HasAllTop, HasAllTurns}

-- It may begin over the hub of this intake: it has the whole shares by which it pops and ticks; the greatest instant popped is the last one
-- published, which the stored floor covers; the core was opened with what the mark stores, at the publisher's rate; and no step was taken, and
-- nothing put.
pub record MayAlign {C N S M I : Type 0} {core : _} {reads : _} {naming : _} {ledgers : _} {logged : _} {m : _}
    (intake : Intake C N S core reads naming ledgers logged) (aligner : Aligner N M I m) : Type 0 where
  pub top : HasAllTop aligner.pops ledgers.top
  pub last : aligner.pops.top.amount ≡ last_in aligner.publisher
  pub floor : last_in aligner.publisher ≤ (stored_in aligner.publisher).floor
  pub turns : HasAllTurns aligner.pops ledgers.turns
  pub given : (g : Given) × (naming.given ≡ Some g)
  pub begun : aligner.pops.front ≡ []
  pub rate : IsAtRate naming.given (output_in aligner.publisher).rate
  pub opened : IsOpenedWith naming.given (stored_in aligner.publisher)
  pub begins : IsOpen aligner.writer × (put_by aligner.writer ≡ [])

-- It aligned where all receivers were started, and else put the end mark at most. The instants put strictly rise, lie above the last one
-- published before, and are at most the floor that is stored then; where it is Ok, so many were published. What was put are the frames of the
-- life, but for one at most where it failed. The ticks are the ticker's, with counts that never fall from those stored before to those stored
-- then; all rows that were due were popped before the next tick, and in the end where it is Ok; and each that was popped was put, but for one
-- at most. It fails only so, and by the device only where that failed.
pub record HasAligned {C N S M I : Type 0} {core : _} {reads : _} {naming : _} {ledgers : _} {logged : _} {m : _}
    (intake : Intake C N S core reads naming ledgers logged) (gave : I → List ℕ → Type 0) (pace : Pace) (started : Bool) (before after : Aligner N M I m) (result : Result ℕ HubFault) : Type 0 where
  pub same : after.writer.to ≡ before.writer.to
  pub rising : Rises (last_in before.publisher) (instants_of (put_by after.writer)) (stored_in after.publisher).floor
  pub published : IfOk result (λ count. count ≡ length (instants_of (put_by after.writer)))
  pub laid : OnOk result (IsLaid core.rules naming.given (output_in before.publisher) pace.rate pace.layout_every after.pops.front (put_by after.writer))
  pub but : IsLaidBut core.rules naming.given (output_in before.publisher) pace.rate pace.layout_every after.pops.front (put_by after.writer)
  pub ticked : HasTicked (GivesFrom gave before.ticker) (stored_in before.publisher).counts (stored_in after.publisher).counts (ticks_of after.pops.front) result
  pub turns : after.pops.turns.parts ≡ before.pops.turns.parts
  pub done : OnOk result (IsDone core.rules naming.given after.pops.front)
  pub are_done : AreDone core.rules naming.given after.pops.front
  pub kept : PublishesAs before.publisher after.publisher
  pub all : HasPutAll (popped_by before.pops) (popped_by after.pops) [] (put_by after.writer) result
  pub complete : OnOk result (started ≡ true)
  pub causes : started ≡ true → IfErr result IsOfAligner
  pub device : HasDevice (standing_of before.publisher) (standing_of after.publisher) result
