use Rattle.std.proofs.Common.{◌≡◌, map, take}
use Rattle.pdc_arrival.specs.Views.{section_part}
use Rattle.pdc_arrival.specs.declared.arrival.ColumnSection.{ColumnSection}
use Rattle.pdc_merge.specs.Held.{held_section_of}
use Rattle.pdc_merge.proofs.held_layout.held_sections.Given as goal

-- what is kept of the sections so far
abbrev pub invariant-loop-section : goal.invariant-loop-section
invariant-loop-section l = l.held.items ≡ map (λ (s : ColumnSection). held_section_of (section_part s)) (take l.section-index l.sections)
