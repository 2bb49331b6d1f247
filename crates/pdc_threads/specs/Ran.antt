-- What a run promises, of the crew that it was given.
use Rattle.std.specs.Prelude.{◌≡◌, ℕ, List, Option, Some}
use Rattle.pdc_aligner.specs.Device.{standing_of}
use Rattle.pdc_hub.specs.Replay.{Sayings}
use Rattle.pdc_life.specs.Answer.{Rules}
use Rattle.pdc_life.specs.Given.{Given}
use Rattle.pdc_mark.specs.declared.mark.Mark.{Ghosts}
use Rattle.pdc_mark.specs.declared.stored.Stored.{Stored}
use Rattle.pdc_ports.specs.Heard.{Heard}
use Rattle.pdc_publisher.specs.Publisher.{last_in, lead_in, mark_in, output_in}
use Rattle.pdc_publisher.specs.declared.publisher.Publisher.{Publisher}
use Rattle.pdc_row.specs.declared.output.Output.{Output}
use Rattle.pdc_threads.specs.OneRun.{Found, IsOneRun, found_by}
use Rattle.pdc_threads.specs.Run.{GivesFrom, HasRun, IsCausedByMark, IsCausedBySink}
use Rattle.pdc_threads.specs.declared.crew.Crew.{Crew}
use Rattle.pdc_threads.specs.declared.crew.Ran.{Ran}

-- what the mark of a publisher stores
abbrev pub stored_in : {M : Type 0} {marks : Ghosts M} → Publisher M marks → Stored
stored_in {marks = marks} publisher = marks.stored (mark_in publisher)

-- What a run finds, or leaves: of this publisher, and of a sink that failed so often.
abbrev pub found_in : {M : Type 0} {marks : Ghosts M} → Publisher M marks → (failures : ℕ) → Found
found_in publisher failures = found_by (stored_in publisher) (standing_of publisher) failures

-- Its frames say this, and it reserves so many instants ahead.
abbrev pub PublishesSo : {M : Type 0} {marks : Ghosts M} → (output : Output) (lead : ℕ) → Publisher M marks → Type 0
PublishesSo output lead publisher = (output_in publisher ≡ output) × (lead_in publisher ≡ lead)

-- It does as another one did.
abbrev pub PublishesAs : {M : Type 0} {marks : Ghosts M} → (before after : Publisher M marks) → Type 0
PublishesAs before after = (output_in after ≡ output_in before) × (lead_in after ≡ lead_in before)

-- Where the run ended by the sink's fault, the sink failed in it.
abbrev pub EndedBySink : {M K : Type 0} {m : _} (failures_of : K → ℕ) → K → Ran M K m → Type 0
EndedBySink failures_of sink ran = IsCausedBySink ran.outcome (failures_of sink) (failures_of ran.sink)

-- Where it ended by the mark's device, a fault stood on the mark of this publisher, or the device failed in the run.
abbrev pub EndedByMark : {M K : Type 0} {marks : Ghosts M} → Publisher M marks → Ran M K marks → Type 0
EndedByMark publisher ran = IsCausedByMark ran.outcome (standing_of publisher) (standing_of ran.publisher)

-- What the sink took are the first of the frames that were put, whose instants strictly rise, lie above the last one published before, and are
-- at most the floor that is stored then; all of them where the run was Ok, which tells how many rows were published.
abbrev pub HasSent : {N W P M I K : Type 0} {m : _} {n : _} (took : K → K → List (List ℕ) → Type 0) → Crew N W P M I K m → Ran M K n → Type 0
HasSent took crew ran = HasRun (took crew.sink ran.sink) (last_in crew.publisher) (stored_in ran.publisher).floor ran.outcome

-- There is one life of what is named, of which the sources of the crew gave what came, the ticker gave the ticks, and the sink took the frames.
abbrev pub RanOneLife : {N W P M I K : Type 0} {m : _} {n : _} (rules : Rules) (Says : Sayings) (named : Option Given) (told : P → List Heard → Type 0) (gave : I → List ℕ → Type 0) (took : K → K → List (List ℕ) → Type 0) (failures_of : K → ℕ)
    → Crew N W P M I K m → Ran M K n → Type 0
RanOneLife rules Says named told gave took failures_of crew ran = (g : Given) → named ≡ Some g →
    ∥ IsOneRun rules Says g (output_in crew.publisher) crew.pace.rate crew.pace.layout_every told crew.sources.items (GivesFrom gave crew.ticker) (took crew.sink ran.sink)
    (found_in crew.publisher (failures_of crew.sink)) (found_in ran.publisher (failures_of ran.sink)) ran.outcome ∥₁
