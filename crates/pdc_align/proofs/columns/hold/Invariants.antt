use Rattle.std.proofs.Common.{◌≡◌, drop, length, map}
use Rattle.pdc_arrival.specs.Views.{section_part}
use Rattle.pdc_align.specs.Calls.{with_sections}
use Rattle.pdc_align.proofs.columns.hold.Given as goal

-- the sections that are left are held in the columns as they are
abbrev pub invariant-loop-section : goal.invariant-loop-section
invariant-loop-section l = record {
  columns : with_sections (map section_part (drop l.section-index l.sections)) l.columns ≡ with_sections (map section_part l.sections) l.initial.columns;
  len : length l.columns ≡ length l.initial.columns;
}
