-- How a run is over that began with what a mark stores, and what it tells.
use Rattle.std.specs.Prelude.{◌≡◌, ℕ, Bool, false, List, Result}
use Rattle.pdc_life.specs.CoreKind.{CoreKind, given_of, OfMerger, OfNode, output_under, rules_of, Says}
use Rattle.pdc_aligner.specs.Device.{Standing}
use Rattle.pdc_hub.specs.declared.fault.HubFault.{HubFault}
use Rattle.pdc_ports.specs.Heard.{Heard}
use Rattle.pdc_startup.specs.pdc_sockets.declared.concentrator.Concentrator.{Concentrator}
use Rattle.pdc_startup.specs.pdc_sockets.declared.concentrator.Concentrator.TheVariants.{Merger, Node}
use Rattle.pdc_threads.specs.OneRun.{Found, IsOneRun}
use Rattle.pdc_threads.specs.Run.{HasRun}
use Rattle.pdc_threads.specs.declared.totals.Totals.{Totals}

-- How a mark stands with which a run begins: no store of its publisher failed yet.
abbrev pub begun_standing : (broken : Bool) (failures : ℕ) → Standing
begun_standing broken failures = record { failed = false; broken = broken; failures = failures }

-- The run was one life of a core of this kind, begun with what the mark stored: the arrivals of each stream are what its source gave, the ticks
-- those of the ticker, with counts that the mark stored, and the sink took the first of its frames, in order, with the layout again after so
-- many ticks; all of them where the run is Ok.
abbrev pub WasOneLife : {S : Type 0} (kind : CoreKind) (every : ℕ) (told : S → List Heard → Type 0) (Gave : List ℕ → Type 0) (Took : List (List ℕ) → Type 0) (before after : Found) (sources : List S) (outcome : Result Totals HubFault) → Type 0
WasOneLife kind every told Gave Took before after sources outcome =
    ∥ IsOneRun (rules_of kind) (Says kind) (given_of kind before.stored.start before.stored.floor before.stored.counts 0) (output_under kind) (output_under kind).rate every told sources Gave Took before after outcome ∥₁

-- a node or the merger, by its settings
abbrev pub kind_of : Concentrator → CoreKind
kind_of (Node settings) = OfNode settings.life
kind_of (Merger settings) = OfMerger settings.life

-- It is over so, whatever became of the sink and the mark, which it keeps: with some state of the sink, and some mark that it left. What the
-- sink took until then are the first of the frames put.
pub record IsOver {S K : Type 0} (concentrator : Concentrator) (every : ℕ) (told : S → List Heard → Type 0) (Gave : List ℕ → Type 0) (Took : K → List (List ℕ) → Type 0) (failures_of : K → ℕ) (before : Found) (sources : List S) (outcome : Result Totals HubFault) : Type 0 where
  pub left : K
  pub after : Found
  pub failures : after.failures ≡ failures_of left
  pub sent : HasRun (Took left) before.stored.floor after.stored.floor outcome
  pub one : WasOneLife (kind_of concentrator) every told Gave (Took left) before after sources outcome
