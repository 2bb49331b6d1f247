-- What a run promises, of what it was handed.
use Rattle.std.specs.Prelude.{◌≡◌, ℕ, Bool, List}
use Rattle.pdc_aligner.specs.Device.{standing_of}
use Rattle.pdc_hub.specs.Cut.{Cut}
use Rattle.pdc_hub.specs.Replay.{Sayings}
use Rattle.pdc_hub.specs.declared.shares.Blanks.{Blanks}
use Rattle.pdc_life.specs.Answer.{Rules}
use Rattle.pdc_life.specs.CoreKind.{CoreKind}
use Rattle.pdc_life.specs.Given.{Given}
use Rattle.pdc_mark.specs.declared.mark.Mark.{Ghosts}
use Rattle.pdc_mark.specs.declared.stored.Stored.{Stored}
use Rattle.pdc_ports.specs.Heard.{Heard}
use Rattle.pdc_publisher.specs.Publisher.{last_in, output_in}
use Rattle.pdc_row.specs.declared.output.Output.{Output}
use Rattle.pdc_service.specs.Ended.{WasOneLife, begun_standing}
use Rattle.pdc_service.specs.declared.handed.Handed.{Handed}
use Rattle.pdc_service.specs.declared.running_concentrator.Ready.{Ready}
use Rattle.pdc_startup.specs.Begun.{begun_mark}
use Rattle.pdc_startup.specs.declared.begun.Begun.{Begun}
use Rattle.pdc_threads.specs.OneRun.{Found, IsOneRun, found_by}
use Rattle.pdc_threads.specs.Ran.{found_in, stored_in}
use Rattle.pdc_threads.specs.Run.{GivesFrom, HasRun, IsCausedByMark}
use Rattle.pdc_threads.specs.declared.crew.Ran.{Ran}

-- what a run finds that begins with this mark, over a sink that failed so often
abbrev pub found_begun : {M : Type 0} (stored : M → Stored) (is_broken : M → Bool) (failures_of : M → ℕ) → Begun M → (failures : ℕ) → Found
found_begun stored is_broken failures_of begun failures = found_by (stored (begun_mark begun)) (begun_standing (is_broken (begun_mark begun)) (failures_of (begun_mark begun))) failures

-- the same, by what marks are
abbrev pub found_as : {M : Type 0} (marks : Ghosts M) → Begun M → (failures : ℕ) → Found
found_as marks begun failures = found_begun marks.stored marks.is_broken marks.failures begun failures

-- Where it ended by the mark's device, a fault stood on the mark that was begun, or its device failed since.
abbrev pub EndedByBegun : {M K : Type 0} {marks : Ghosts M} → Begun M → Ran M K marks → Type 0
EndedByBegun {marks = marks} begun ran = IsCausedByMark ran.outcome (begun_standing (marks.is_broken (begun_mark begun)) (marks.failures (begun_mark begun))) (standing_of ran.publisher)

-- What the sink took are the first of the frames that were put, whose instants strictly rise, lie above the floor that the mark stored, and are
-- at most the floor that is stored then; all of them where the run was Ok, which tells how many rows were published.
abbrev pub HasSentOf : {W P M I K : Type 0} {marks : Ghosts M} (took : K → K → List (List ℕ) → Type 0) → Handed W P M I K → Ran M K marks → Type 0
HasSentOf {marks = marks} took handed ran = HasRun (took handed.sink ran.sink) (marks.stored (begun_mark handed.mark)).floor (stored_in ran.publisher).floor ran.outcome

-- the same of what is ready, whose mark is the publisher's
abbrev pub HasSentReady : {W P M I K : Type 0} {m : _} {n : _} (took : K → K → List (List ℕ) → Type 0) → Ready W P M I K m → Ran M K n → Type 0
HasSentReady took ready ran = HasRun (took ready.sink ran.sink) (last_in ready.publisher) (stored_in ran.publisher).floor ran.outcome

-- It was one life of a core of this kind, with the layout again after so many ticks, begun with what the mark stored: the arrivals of each
-- stream are what its source gave, the ticks those of the ticker, and the sink took the first of its frames.
abbrev pub WasLifeOf : {W P M I K : Type 0} {marks : Ghosts M} (kind : CoreKind) (every : ℕ) (told : P → List Heard → Type 0) (gave : I → List ℕ → Type 0) (took : K → K → List (List ℕ) → Type 0) (failures_of : K → ℕ)
    → Handed W P M I K → Ran M K marks → Type 0
WasLifeOf {marks = marks} kind every told gave took failures_of handed ran =
    WasOneLife kind every told (GivesFrom gave handed.ticker) (took handed.sink ran.sink) (found_as marks handed.mark (failures_of handed.sink)) (found_in ran.publisher (failures_of ran.sink)) handed.sources.items ran.outcome

-- It was one life of a core with these rules, given what its settings say with what the mark stored.
abbrev pub WasLifeBy : {W P M I K : Type 0} {marks : Ghosts M} (rules : Rules) (Says : Sayings) (given_with : ℕ → ℕ → List ℕ → Given) (output : Output) (every : ℕ) (told : P → List Heard → Type 0) (gave : I → List ℕ → Type 0) (took : K → K → List (List ℕ) → Type 0) (failures_of : K → ℕ)
    → Handed W P M I K → Ran M K marks → Type 0
WasLifeBy {marks = marks} rules Says given_with output every told gave took failures_of handed ran =
    ∥ IsOneRun rules Says (given_with (marks.stored (begun_mark handed.mark)).start (marks.stored (begun_mark handed.mark)).floor (marks.stored (begun_mark handed.mark)).counts) output output.rate every told handed.sources.items (GivesFrom gave handed.ticker) (took handed.sink ran.sink)
    (found_as marks handed.mark (failures_of handed.sink)) (found_in ran.publisher (failures_of ran.sink)) ran.outcome ∥₁

-- the same of what is ready, whose mark is the publisher's
abbrev pub WasLifeReady : {W P M I K : Type 0} {m : _} {n : _} (rules : Rules) (Says : Sayings) (g : Given) (told : P → List Heard → Type 0) (gave : I → List ℕ → Type 0) (took : K → K → List (List ℕ) → Type 0) (failures_of : K → ℕ)
    → Ready W P M I K m → Ran M K n → Type 0
WasLifeReady rules Says g told gave took failures_of ready ran =
    ∥ IsOneRun rules Says g (output_in ready.publisher) ready.pace.rate ready.pace.layout_every told ready.sources.items (GivesFrom gave ready.ticker) (took ready.sink ran.sink)
    (found_in ready.publisher (failures_of ready.sink)) (found_in ran.publisher (failures_of ran.sink)) ran.outcome ∥₁

-- New ledgers and a new log are those that are named, and are cut so.
abbrev pub AreCutSo : (taken refused configured top turns : Cut) → Blanks → Type 0
AreCutSo taken refused configured top turns blanks =
    ((blanks.taken.name ≡ taken.name) × (blanks.refused.name ≡ refused.name) × (blanks.configured.name ≡ configured.name) × (blanks.top.name ≡ top.name) × (blanks.turns.name ≡ turns.name))
    × ((blanks.taken.parts ≡ taken.parts) × (blanks.refused.parts ≡ refused.parts) × (blanks.configured.parts ≡ configured.parts) × (blanks.top.parts ≡ top.parts) × (blanks.turns.parts ≡ turns.parts))

-- Those of the totals are cut into so many parts, the others into one.
abbrev pub AreCutInto : ℕ → (taken refused configured top turns : Cut) → Type 0
AreCutInto parts taken refused configured top turns = (taken.parts ≡ parts) × (refused.parts ≡ parts) × (configured.parts ≡ parts) × (top.parts ≡ 1) × (turns.parts ≡ 1)

-- What is given to a life by these settings says of its frames what the output does, and begins as it is told.
pub record BeginsAs {S : Type 0} (given_with : S → ℕ → ℕ → List ℕ → Given) (settings : S) (frames : Output) : Type 0 where
  pub output : (first low : ℕ) (below : List ℕ) → (given_with settings first low below).output ≡ frames
  pub start : (first low : ℕ) (below : List ℕ) → (given_with settings first low below).start ≡ first
  pub floor : (first low : ℕ) (below : List ℕ) → (given_with settings first low below).floor ≡ low
  pub counts : (first low : ℕ) (below : List ℕ) → (given_with settings first low below).counts ≡ below
