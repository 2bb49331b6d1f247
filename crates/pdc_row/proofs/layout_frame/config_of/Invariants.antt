use Rattle.std.proofs.Common.{◌≡◌, ◌+◌, ◌∷◌, length, take, map}
use Rattle.pdc_row.specs.pdc_cfg.Section.{fields_of_view, fields_of_section}
use Rattle.pdc_row.proofs.layout_frame.config_of.Given as goal

abbrev pub invariant-loop-section : goal.invariant-loop-section
invariant-loop-section l = record {
  sections : map fields_of_view l.all.items ≡ fields_of_section l.own ∷ map fields_of_view (take l.section-index l.sections);
  count : length l.all.items ≡ 1 + l.section-index;
}
