-- What contracts see of the merger, and the lives that it stands for.
use Rattle.std.specs.Prelude.{◌≡◌, ℕ, ◌+◌, ◌<◌, List, length, map}
use Rattle.std.specs.List.{AllByRecursion}
use Rattle.pdc_cfg.specs.Section.{SectionFields}
use Rattle.pdc_row.specs.Rising.{Rises}
use Rattle.pdc_life.specs.declared.merging.MergerSettings.{MergerSettings}
use Rattle.pdc_life.specs.Arrival.{Arrival}
use Rattle.pdc_life.specs.CoreKind.{IsLifeOf, OfMerger}
use Rattle.pdc_life.specs.Given.{Given}
use Rattle.pdc_life.specs.Life.{Entry}
use Rattle.pdc_life.specs.Run.{sections_of}
use Rattle.pdc_align.specs.Align.{HasSizes, State}
use Rattle.pdc_align.specs.Align as align
use Rattle.pdc_arrival.specs.declared.counts.Counts.{Counts}
use Rattle.pdc_arrival.specs.Counts.{counts_after}
use Rattle.pdc_merge.specs.Cells.{layouts_in_force}
use Rattle.pdc_merge.specs.Held.{AreAllInPlace, LayoutsView, layouts_of}
use Rattle.pdc_merge.specs.declared.in_force.InForce.{InForce}

pub record MergerView : Type 0 where
  -- what is fixed: the settings, and the number of the start
  pub settings : MergerSettings
  pub start : ℕ
  -- what is kept: the state of the alignment, the layouts of both nodes, and how arrivals were answered
  pub state : State
  pub layouts : LayoutsView
  pub counts : Counts
  -- for each buffer that it holds how many places it has, and how often both nodes' blocks of a column differed at a closing, which
  -- no definition of a life speaks of
  pub memory : List ℕ
  pub disagreements : ℕ
  -- the greatest instant popped, at first the floor
  pub popped : ℕ

-- The merger stands for this life, which is one of its settings.
pub record StandsFor (g : Given) (E : List Entry) (m : MergerView) : Type 0 where
  pub life : IsLifeOf (OfMerger m.settings) g E
  pub same_start : m.start ≡ g.start
  pub aligned : align.StandsFor g E m.state
  pub held : m.layouts ≡ layouts_of E
  pub counted : m.counts ≡ counts_after E

-- An alignment of two lanes, the sections of whose held layouts stand in its columns.
pub record IsReady (a : State) (held : LayoutsView) : Type 0 where
  pub each : length a.columns ≡ a.content.columns
  pub lanes : a.content.lanes ≡ 2
  pub in_place : AreAllInPlace (length a.columns) held

-- What always holds of a merger, with so many columns, which knows of which nodes the held layout is in force.
pub record IsWhole (columns : ℕ) (a : State) (held : LayoutsView) (in_force : InForce) : Type 0 where
  pub sizes : HasSizes columns 2 a
  pub in_place : AreAllInPlace columns held
  pub known : in_force ≡ layouts_in_force a held

-- What arrives from a node brings sections in rising columns, and there are such columns.
pub record IsPlaced (columns stream : ℕ) (arrival : Arrival) : Type 0 where
  pub of_two : stream < 2
  pub rise : Rises 0 (map (λ (part : ℕ × SectionFields). part.0 + 1) (sections_of arrival))
  pub exist : AllByRecursion (λ (part : ℕ × SectionFields). part.0 < columns) (sections_of arrival)
