-- What a run is given.
use Rattle.std.specs.Prelude.{◌≡◌, ◌+◌, ◌≤◌, [], Some, false, true, vec_len}
use Rattle.crossbeam_channel.specs.Claims.{Pass, view}
use Rattle.pdc_aligner.specs.Opened.{IsOpenedWith}
use Rattle.pdc_aligner.specs.Rate.{IsAtRate}
use Rattle.pdc_hub.specs.declared.intake.Intake.{Intake}
use Rattle.pdc_life.specs.Given.{Given}
use Rattle.pdc_pipe.specs.Pipe.{log}
use Rattle.pdc_pipe.specs.Writing.{IsOpen, put_by}
use Rattle.pdc_pipe.specs.declared.message.Message.{Message}
use Rattle.pdc_pipe.specs.declared.pipe.Log.{Log}
use Rattle.pdc_publisher.specs.Publisher.{last_in, output_in}
use Rattle.pdc_threads.specs.Ran.{stored_in}
use Rattle.pdc_hub.specs.Counted.{AreAllParts, HaveCountedNone}
use Rattle.pdc_hub.specs.Pops.{HasAllTop, HasAllTurns}
use Rattle.pdc_threads.specs.Shares.{AreParts}
use Rattle.pdc_threads.specs.declared.crew.Manned.{Manned}
use Rattle.pdc_life.specs.pdc_row.declared.limits.TheConstants.{MAX_PMUS}

-- A run over this hub and these settings may begin. The settings are those that are named, and each stream has an input. The shares are whole,
-- with a part for each input and one more, and have counted nothing. The greatest instant popped is the last one published, which the stored
-- floor covers. The core was opened with what the mark stores, at the publisher's rate; no step was taken since. And nothing was put.
pub record IsReady {C N S W P M I K : Type 0} {core : _} {reads : _} {naming : _} {ledgers : _} {logged : _} {g : _}
    (intake : Intake C N S core reads naming ledgers logged) (manned : Manned N W P M I K g) : Type 0 where
  pub settings : naming.settings ≡ Some intake.settings.now
  pub streams : vec_len manned.inputs ≡ reads.streams intake.settings.now
  pub few : vec_len manned.inputs ≤ MAX_PMUS
  pub parts : AreParts (vec_len manned.inputs + 1) manned.shares
  pub whole : AreAllParts manned.shares ledgers.taken ledgers.refused ledgers.configured
  pub amounts : HaveCountedNone manned.shares
  pub top : HasAllTop manned.aligner.pops ledgers.top
  pub last : manned.aligner.pops.top.amount ≡ last_in manned.aligner.publisher
  pub turns : HasAllTurns manned.aligner.pops ledgers.turns
  pub begun : manned.aligner.pops.front ≡ []
  pub given : (g : Given) × (naming.given ≡ Some g)
  pub floor : last_in manned.aligner.publisher ≤ (stored_in manned.aligner.publisher).floor
  pub rate : IsAtRate naming.given (output_in manned.aligner.publisher).rate
  pub opened : IsOpenedWith naming.given (stored_in manned.aligner.publisher)
  pub begins : IsOpen manned.aligner.writer × (put_by manned.aligner.writer ≡ [])

-- A pass for the end of a channel from which nothing was taken yet.
abbrev pub IsUnread : (IsSeat : Pass Message Log → Type 0) → Pass Message Log → Type 0
IsUnread IsSeat reader = IsSeat reader × (view reader ≡ log false true false [] [])
