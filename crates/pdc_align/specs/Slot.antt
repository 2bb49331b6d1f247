-- What a place for a section tells of it without a look at its bytes.
use Rattle.std.specs.Prelude.{◌≡◌, ℕ, Option, option_map}
use Rattle.pdc_arrival.specs.pdc_cfg.Section.{SectionFields}
use Rattle.pdc_arrival.specs.pdc_cfg.declared.shape.Shape.{Shape}
use Rattle.pdc_align.specs.State.{shape_in}

-- the count of the section, if there is one
abbrev pub count_in : Option SectionFields → Option ℕ
count_in section = option_map (λ (s : SectionFields). s.count) section

-- The count and the shape are those of the section.
pub record IsTold (count : Option ℕ) (shape : Option Shape) (section : Option SectionFields) : Type 0 where
  pub same_count : count ≡ count_in section
  pub same_shape : shape ≡ shape_in section
