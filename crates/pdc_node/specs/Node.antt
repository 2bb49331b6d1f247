-- What contracts see of a node, and the lives that it stands for.
use Rattle.std.specs.Prelude.{◌≡◌, ℕ, ◌<◌, List, length}
use Rattle.std.specs.List.{AllByRecursion}
use Rattle.pdc_cfg.specs.Section.{SectionFields}
use Rattle.pdc_life.specs.declared.given.Settings.{Settings}
use Rattle.pdc_life.specs.Arrival.{Arrival}
use Rattle.pdc_life.specs.CoreKind.{IsLifeOf, OfNode}
use Rattle.pdc_life.specs.Given.{Given}
use Rattle.pdc_life.specs.Life.{Entry}
use Rattle.pdc_life.specs.Run.{sections_of}
use Rattle.pdc_align.specs.Align.{State}
use Rattle.pdc_align.specs.Align as align
use Rattle.pdc_arrival.specs.declared.counts.Counts.{Counts}
use Rattle.pdc_arrival.specs.Counts.{counts_after}

pub record NodeView : Type 0 where
  -- what is fixed: the settings, the number of the start, and for each column the count below which no section is held
  pub settings : Settings
  pub start : ℕ
  pub opening : List ℕ
  -- what is kept: the state of the alignment, and how arrivals were answered
  pub state : State
  pub counts : Counts
  -- for each buffer that it holds how many places it has
  pub memory : List ℕ
  -- the greatest instant popped, at first the floor
  pub popped : ℕ

-- The node stands for this life, which is one of its settings.
pub record StandsFor (g : Given) (E : List Entry) (n : NodeView) : Type 0 where
  pub life : IsLifeOf (OfNode n.settings) g E
  pub same_start : n.start ≡ g.start
  pub same_opening : n.opening ≡ g.counts
  pub aligned : align.StandsFor g E n.state
  pub counted : n.counts ≡ counts_after E

-- An alignment of one lane that has a column for the stream.
pub record IsReady (a : State) (stream : ℕ) : Type 0 where
  pub each : length a.columns ≡ a.content.columns
  pub lanes : a.content.lanes ≡ 1
  pub exists : stream < length a.columns

-- What arrives brings sections for the stream's own column alone.
abbrev pub IsOwn : (stream : ℕ) → Arrival → Type 0
IsOwn stream arrival = AllByRecursion (λ (part : ℕ × SectionFields). part.0 ≡ stream) (sections_of arrival)
