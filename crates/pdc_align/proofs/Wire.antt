-- The frame of the layout in force is that of the life.
use Rattle.std.proofs.Common.{◌≡◌, ℕ, List, ap, ◌∙◌}
use Rattle.std.specs.List.{filter_map, range_with_len}
use Rattle.pdc_arrival.specs.pdc_cfg.Section.{SectionFields}
use Rattle.pdc_arrival.specs.pdc_row.declared.output.Output.{Output}
use Rattle.pdc_arrival.specs.pdc_row.Layout.{layout_wire_of}
use Rattle.pdc_arrival.specs.pdc_life.Given.{Given}
use Rattle.pdc_arrival.specs.pdc_life.Life.{Entry, changes, section_in_force}
use Rattle.pdc_arrival.specs.pdc_life.Published.{layout_wire}

pub wire_is : (g : Given) (E : List Entry) (output : Output) (start columns change soc : ℕ) (sections : List SectionFields) → output ≡ g.output → start ≡ g.start → columns ≡ g.columns
    → change ≡ changes E → sections ≡ filter_map (section_in_force g E) (range_with_len 0 columns) → layout_wire_of output start change sections soc ≡ layout_wire g E soc
wire_is g E output start columns change soc sections o s n c is =
    ap (λ (out : Output). layout_wire_of out start change sections soc) o
    ∙ ap (λ st. layout_wire_of g.output st change sections soc) s
    ∙ ap (λ m. layout_wire_of g.output g.start m sections soc) c
    ∙ ap (λ ss. layout_wire_of g.output g.start (changes E) ss soc)
    (is ∙ ap (λ k. filter_map (section_in_force g E) (range_with_len 0 k)) n)
