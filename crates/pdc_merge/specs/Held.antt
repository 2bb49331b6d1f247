-- What the merger keeps of the layouts that it holds of the nodes: a function of the life.
use Rattle.std.specs.Prelude.{ℕ, ◌+◌, ◌<◌, ◌==◌, if◌then◌else◌, List, map, Option, Some, None, option_map}
use Rattle.std.specs.List.{AllByRecursion}
use Rattle.pdc_cfg.specs.Section.{SectionFields}
use Rattle.pdc_row.specs.Rising.{Rises}
use Rattle.pdc_life.specs.Arrival.{Stamp}
use Rattle.pdc_life.specs.Life.{Entry}
use Rattle.pdc_life.specs.Merger.{HeldLayout, held_layout}
use Rattle.pdc_merge.specs.declared.held_layout.HeldSection.{HeldSection}

-- what is kept of a section: its column, the shape of its data, and its count
abbrev pub held_section_of : ℕ × SectionFields → HeldSection
held_section_of part = record { column = part.0; shape = part.1.shape; count = part.1.count }

-- what is kept of a layout: its stamp, and its sections in their order
pub record LayoutView : Type 0 where
  pub stamp : Stamp
  pub sections : List HeldSection

abbrev pub layout_of : HeldLayout → LayoutView
layout_of layout = record { stamp = layout.stamp; sections = map held_section_of layout.sections }

-- what is kept of both nodes: 0 is A, 1 is B
pub record LayoutsView : Type 0 where
  pub first : Option LayoutView
  pub second : Option LayoutView

-- What is held after E.
abbrev pub layouts_of : List Entry → LayoutsView
layouts_of E = record { first = option_map layout_of (held_layout E 0); second = option_map layout_of (held_layout E 1) }

-- what is held of the node of a stream
abbrev pub layout_at : LayoutsView → (stream : ℕ) → Option LayoutView
layout_at held stream = if stream == 0 then held.first else held.second

-- and what is held once it is this
abbrev pub with_layout : LayoutsView → (stream : ℕ) → LayoutView → LayoutsView
with_layout held stream layout = if stream == 0 then record held { first = Some layout } else record held { second = Some layout }

-- The columns of the sections rise, and there are such columns.
pub record AreInPlace (columns : ℕ) (sections : List HeldSection) : Type 0 where
  pub rise : Rises 0 (map (λ (s : HeldSection). s.column + 1) sections)
  pub exist : AllByRecursion (λ (s : HeldSection). s.column < columns) sections

abbrev pub MayBeInPlace : (columns : ℕ) → Option LayoutView → Type 0
MayBeInPlace columns None = Unit {0}
MayBeInPlace columns (Some layout) = AreInPlace columns layout.sections

pub record AreAllInPlace (columns : ℕ) (held : LayoutsView) : Type 0 where
  pub first : MayBeInPlace columns held.first
  pub second : MayBeInPlace columns held.second
