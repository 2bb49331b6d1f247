-- What a core is, a node or the merger: all that their lives differ in.
use Rattle.std.specs.Prelude.{◌≡◌}
use Rattle.pdc_life.specs.Names.{length, List, slice_get, Some, ℕ}
use Rattle.pdc_life.specs.Answer.{IsLife, Rules}
use Rattle.pdc_life.specs.Arrival.{Arrival}
use Rattle.pdc_life.specs.Given.{Given}
use Rattle.pdc_life.specs.Life.{Entry}
use Rattle.pdc_life.specs.Merger.{merged_answer}
use Rattle.pdc_life.specs.MergerReading.{nodes_of, ReadsFrom}
use Rattle.pdc_life.specs.Node.{node_answer}
use Rattle.pdc_life.specs.NodeReading.{Reads}
use Rattle.pdc_life.specs.declared.given.Settings.{Settings}
use Rattle.pdc_life.specs.declared.merging.MergedNode.{MergedNode}
use Rattle.pdc_life.specs.declared.merging.MergerSettings.{MergerSettings}
use Rattle.pdc_life.specs.declared.pmu.Pmu.{Pmu}
use Rattle.pdc_life.specs.declared.timing.Timing.{Timing}
use Rattle.pdc_row.specs.declared.output.Output.{Output}

-- a node or the merger, with its settings
pub data CoreKind : Type 0 where
  OfNode : (settings : Settings) → CoreKind
  OfMerger : (settings : MergerSettings) → CoreKind

-- the rules by which it answers what arrives
abbrev pub rules_of : CoreKind → Rules
rules_of (OfNode settings) = node_answer
rules_of (OfMerger settings) = merged_answer

-- who sends it a stream: a PMU, or a node
abbrev pub SenderOf : CoreKind → Type 0
SenderOf (OfNode settings) = Pmu
SenderOf (OfMerger settings) = MergedNode

-- those who do, in the order of their streams
abbrev pub senders_of : (kind : CoreKind) → List (SenderOf kind)
senders_of (OfNode settings) = settings.pmus.items
senders_of (OfMerger settings) = nodes_of settings

-- What the bytes say that came from this sender, for the stream with this number.
abbrev pub ReadsAs : (kind : CoreKind) → ℕ → SenderOf kind → List ℕ → Arrival → Type 0
ReadsAs (OfNode settings) s pmu bytes arrival = Reads settings s pmu bytes arrival
ReadsAs (OfMerger settings) s node bytes arrival = ReadsFrom settings node bytes arrival

-- The bytes say this of the stream with this number.
pub record Says (kind : CoreKind) (s : ℕ) (bytes : List ℕ) (arrival : Arrival) : Type 0 where
  pub sender : SenderOf kind
  pub listed : slice_get (senders_of kind) s ≡ Some sender
  pub reads : ReadsAs kind s sender bytes arrival

-- what its settings say of how it publishes and of how long it waits
abbrev pub output_under : CoreKind → Output
output_under (OfNode settings) = settings.output
output_under (OfMerger settings) = settings.output

abbrev pub timing_under : CoreKind → Timing
timing_under (OfNode settings) = settings.timing
timing_under (OfMerger settings) = settings.timing

-- A node has a column for each PMU, and one lane; the merger has one for each source, and two lanes.
abbrev pub column_count : CoreKind → ℕ
column_count (OfNode settings) = length settings.pmus.items
column_count (OfMerger settings) = length settings.sources.items

abbrev pub lane_count : CoreKind → ℕ
lane_count (OfNode settings) = 1
lane_count (OfMerger settings) = 2

-- What is given to a life of it.
abbrev pub given_of : CoreKind → (start floor : ℕ) → (counts : List ℕ) → (opening : ℕ) → Given
given_of kind start floor counts opening = record {
  output = output_under kind;
  wait = (timing_under kind).wait;
  wait_kind = (timing_under kind).wait_kind;
  window = (timing_under kind).window;
  ahead = (timing_under kind).ahead;
  columns = column_count kind;
  lanes = lane_count kind;
  start = start;
  floor = floor;
  counts = counts;
  opening = opening;
}

-- A life of it: given by its settings and by some start, floor, counts and opening.
pub record IsLifeOf (kind : CoreKind) (g : Given) (E : List Entry) : Type 0 where
  pub given : g ≡ given_of kind g.start g.floor g.counts g.opening
  pub life : IsLife (rules_of kind) (Says kind) g E
