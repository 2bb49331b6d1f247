-- How who aligns stands, and what was done from the one state to the other.
use Rattle.std.specs.Prelude.{◌≡◌, ℕ, Bool, List, Option, Result}
use Rattle.pdc_hub.specs.Cut.{Cut}
use Rattle.pdc_hub.specs.Pops.{HasAllTop, HasAllTurns, popped_by}
use Rattle.pdc_hub.specs.declared.fault.HubFault.{HubFault}
use Rattle.pdc_life.specs.Answer.{ReadStep, Rules}
use Rattle.pdc_life.specs.Given.{Given}
use Rattle.pdc_log.specs.Log.{ticks_of}
use Rattle.pdc_mark.specs.declared.mark.Mark.{Ghosts}
use Rattle.pdc_pipe.specs.Writing.{IsOpen, put_by}
use Rattle.pdc_pipe.specs.declared.message.Message.{Message}
use Rattle.pdc_publisher.specs.Publisher.{last_in, output_in}
use Rattle.pdc_row.specs.declared.output.Output.{Output}
use Rattle.pdc_aligner.specs.Keeping.{counts_in}
use Rattle.pdc_aligner.specs.Laid.{IsAsked, IsAt, IsLaid, IsLaidBut, IsLaidUpToLayout}
use Rattle.pdc_aligner.specs.Rate.{IsAtRate}
use Rattle.pdc_aligner.specs.Sequence.{HasPutAll, RisesOn}
use Rattle.pdc_aligner.specs.Turns.{HasGiven, HasTicked, HasTickedOnce}
use Rattle.pdc_aligner.specs.declared.aligner.Aligner.{Aligner}
use Rattle.pdc_aligner.specs.declared.pace.Pace.{Pace}

-- It has all parts of both ledgers; it published last what was popped last, at the rate of what is named; and it has not put the end mark.
abbrev pub MayPublish : {N M K : Type 0} {marks : Ghosts M} → Option Given → (top turns : Cut) → Aligner N M K marks → Type 0
MayPublish named top turns aligner =
    HasAllTop aligner.pops top × HasAllTurns aligner.pops turns × (last_in aligner.publisher ≡ aligner.pops.top.amount)
    × IsAtRate named (output_in aligner.publisher).rate × IsOpen aligner.writer

-- What it has put are the frames of the life that it has seen;
abbrev pub HasLaid : {N M K : Type 0} {marks : Ghosts M} → Rules → Option Given → Output → Pace → Aligner N M K marks → Type 0
HasLaid rules named output pace aligner = IsLaid rules named output pace.rate pace.layout_every aligner.pops.front (put_by aligner.writer)

-- but for the layout, which is to be put;
abbrev pub HasLaidUpToLayout : {N M K : Type 0} {marks : Ghosts M} → Rules → Option Given → Output → Pace → Aligner N M K marks → Type 0
HasLaidUpToLayout rules named output pace aligner = IsLaidUpToLayout rules named output pace.rate pace.layout_every aligner.pops.front (put_by aligner.writer)

-- or but for one at most.
abbrev pub HasLaidBut : {N M K : Type 0} {marks : Ghosts M} → Rules → Option Given → Output → Pace → Aligner N M K marks → Type 0
HasLaidBut rules named output pace aligner = IsLaidBut rules named output pace.rate pace.layout_every aligner.pops.front (put_by aligner.writer)

-- Where what was put were the frames of the life, they are, up to the layout,
abbrev pub LaysUpToLayout : {N M K : Type 0} {marks : Ghosts M} → Rules → Option Given → (before after : Aligner N M K marks) → Type 0
LaysUpToLayout rules named before after =
    (pace : Pace) → HasLaid rules named (output_in before.publisher) pace before → HasLaidUpToLayout rules named (output_in before.publisher) pace after

-- or but for one at most.
abbrev pub LaysBut : {N M K : Type 0} {marks : Ghosts M} → Rules → Option Given → (before after : Aligner N M K marks) → Type 0
LaysBut rules named before after =
    (pace : Pace) → HasLaid rules named (output_in before.publisher) pace before → HasLaidBut rules named (output_in before.publisher) pace after

-- The next layout is asked for as it was,
abbrev pub KeepsAsked : Rules → Option Given → (before after : List ReadStep) → Type 0
KeepsAsked rules named before after = (every now : ℕ) (wanted : Bool) → IsAsked rules named every before now wanted → IsAsked rules named every after now wanted

-- and it stands between two ticks as it stood.
abbrev pub KeepsAt : Rules → Option Given → (before after : List ReadStep) → Type 0
KeepsAt rules named before after = (every place : ℕ) (adopted : Bool) → IsAt rules named every before adopted place → IsAt rules named every after adopted place

-- Instants that rose to the last one published go on rising to the last one now.
abbrev pub PutsRising : {N M K : Type 0} {marks : Ghosts M} → (before after : Aligner N M K marks) → Type 0
PutsRising before after = RisesOn (put_by before.writer) (last_in before.publisher) (put_by after.writer) (last_in after.publisher)

-- Each row that was popped was put behind these, but one at most where it failed.
abbrev pub PutsAll : {N M K T : Type 0} {marks : Ghosts M} → List Message → (before after : Aligner N M K marks) → Result T HubFault → Type 0
PutsAll put before after result = HasPutAll (popped_by before.pops) (popped_by after.pops) put (put_by after.writer) result

-- One tick was added, with the counts that are stored then, or none where it failed.
abbrev pub TicksOnce : {N M K T : Type 0} {marks : Ghosts M} → (now : ℕ) → (before after : Aligner N M K marks) → Result T HubFault → Type 0
TicksOnce now before after result = HasTickedOnce now (counts_in after.publisher) (ticks_of before.pops.front) (ticks_of after.pops.front) result

-- The ticks of the life are those of the ticker, with counts that never fall from those stored before to those stored then.
abbrev pub HasTickedAs : {N M K T : Type 0} {marks : Ghosts M} → (gave : K → List ℕ → Type 0) (before after : Aligner N M K marks) → Result T HubFault → Type 0
HasTickedAs gave before after result =
    HasTicked (HasGiven gave before.ticker after.ticker) (counts_in before.publisher) (counts_in after.publisher) (ticks_of after.pops.front) result
