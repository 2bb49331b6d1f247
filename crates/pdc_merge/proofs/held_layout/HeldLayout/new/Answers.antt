use Rattle.std.proofs.Common.{List, ap, sym, ◌∙◌}
use Rattle.std.proofs.lemmas.Simd.{map-map}
use Rattle.pdc_arrival.specs.Views.{section_part, stamp_view}
use Rattle.pdc_merge.specs.Held.{LayoutView, held_section_of}
use Rattle.pdc_merge.specs.declared.held_layout.HeldSection.{HeldSection}
use Rattle.pdc_merge.proofs.held_layout.HeldLayout.new.Goals as goal

abbrev kept : goal.After-laid_out → List HeldSection → LayoutView
kept c sections = record { stamp = stamp_view c.args.stamp; sections = sections }

pub returns : goal.returns
returns c = ap (kept c) (c.held_sections-sections.ensures ∙ sym (map-map held_section_of section_part c.args.sections.now))
