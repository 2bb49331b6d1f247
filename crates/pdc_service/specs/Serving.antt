-- A run with consumers beside it.
use Rattle.std.specs.Prelude.{◌≡◌, ◌∷◌, ℕ, [], IfErr, IfOk, List, Option, Result}
use Rattle.pdc_mark.specs.declared.stored.Stored.{Stored}
use Rattle.pdc_ports.specs.Heard.{Heard}
use Rattle.pdc_server.specs.Stream.{Stream, stream_of}
use Rattle.pdc_service.specs.Ended.{kind_of}
use Rattle.pdc_service.specs.Handed.{HasTaken, WasHanded}
use Rattle.pdc_service.specs.Summed.{AreSums, HaveEach}
use Rattle.pdc_service.specs.declared.serving.Opened.{Opened}
use Rattle.pdc_startup.specs.Begun.{begun_mark}
use Rattle.pdc_startup.specs.pdc_sockets.Concentrator.{output_of, service_of, streams_of}
use Rattle.pdc_startup.specs.Faults.{IsOfRun}
use Rattle.pdc_startup.specs.Steps.{Attempt, HasOpened, HasStarted}
use Rattle.pdc_startup.specs.pdc_sockets.declared.concentrator.Concentrator.{Concentrator}
use Rattle.pdc_startup.specs.declared.described.Described.{Described}
use Rattle.pdc_startup.specs.declared.described.Files.{Files}
use Rattle.pdc_startup.specs.declared.described.Step.{Step}
use Rattle.pdc_startup.specs.declared.described.Step.TheVariants.{BeginRecord, OpenListener, OpenMetrics, OpenSink, OpenSources}
use Rattle.pdc_startup.specs.declared.fault.ServiceFault.{ServiceFault}
use Rattle.pdc_threads.specs.declared.totals.Totals.{Totals}

-- It is of this concentrator: with a source for each of its streams, and its frames are of the stream that is named, at the rate that is named.
pub record IsRunOf (concentrator : Concentrator) (sources : ℕ) (named : Stream) (rated : ℕ) : Type 0 where
  pub streams : sources ≡ streams_of concentrator
  pub stream : named ≡ stream_of (output_of concentrator)
  pub rate : (output_of concentrator).rate ≡ rated

-- So it ended: its totals are the sums over the receivers, with an entry for each stream; it failed as runs do; and it was one life, begun
-- with what the mark stored, of which the sources gave what came, the ticks are the ticker's, and the sink took what a run hands on, with the
-- layout again after as many ticks as the settings say.
pub record RanServing {S T M K : Type 0} (told : S → List Heard → Type 0) (Gave : List ℕ → Type 0) (took : K → K → List (List ℕ) → Type 0) (stored : M → Stored)
    (concentrator : Concentrator) (opened : Opened S T M K) (outcome : Result Totals ServiceFault) : Type 0 where
  pub totals : IfOk outcome AreSums
  pub each : IfOk outcome (HaveEach (streams_of concentrator))
  pub faults : IfErr outcome IsOfRun
  pub handed : HasTaken (kind_of concentrator) (service_of concentrator).layout_every (stored (begun_mark opened.mark)) told opened.sources.items Gave took opened.sink outcome

-- The run was one life under what was read, begun with what the mark stored, over sources and a sink as they are opened.
abbrev pub HasRunSo : {S K : Type 0} (told : S → List Heard → Type 0) (fresh : K → Type 0) (took : K → K → List (List ℕ) → Type 0) (outcome : Result Totals ServiceFault) → Described → Stored → Type 0
HasRunSo told fresh took outcome described stored = WasHanded (kind_of described.concentrator) (service_of described.concentrator).layout_every stored told fresh took outcome

-- From the one state of a machine to the other these steps were tried in their order, and the run, where it came to that, was one life over
-- the sources and the outputs that were opened.
abbrev pub OpensAndRuns : {M S K : Type 0} (tried : M → M → List Attempt → Type 0) (told : S → List Heard → Type 0) (fresh : K → Type 0) (took : K → K → List (List ℕ) → Type 0) (old new : M)
    → Described → (stored : Option Stored) (steps : List Step) → Result Totals ServiceFault → Type 0
OpensAndRuns tried told fresh took old new described stored steps outcome = HasOpened tried old new described (HasRunSo told fresh took outcome) stored steps outcome

-- the steps behind the links to the senders, and those behind the mark
abbrev pub steps_behind_links : Files → List Step
steps_behind_links files = OpenSink ∷ OpenListener ∷ OpenMetrics ∷ BeginRecord files ∷ []

abbrev pub steps_behind_mark : Files → List Step
steps_behind_mark files = OpenSources ∷ OpenSink ∷ OpenListener ∷ OpenMetrics ∷ BeginRecord files ∷ []

-- the same of a whole startup, under the settings of a node, or of the merger, that were read first
abbrev pub StartsAndRuns : {M S K : Type 0} (tried : M → M → List Attempt → Type 0) (told : S → List Heard → Type 0) (fresh : K → Type 0) (took : K → K → List (List ℕ) → Type 0) (old new : M) (Is : Concentrator → Type 0)
    → Files → Result Totals ServiceFault → Type 0
StartsAndRuns tried told fresh took old new Is files outcome = HasStarted tried old new Is (HasRunSo told fresh took outcome) files outcome
