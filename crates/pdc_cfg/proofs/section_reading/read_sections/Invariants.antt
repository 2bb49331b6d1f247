use Rattle.std.proofs.Common.{◌≡◌, ◌≤◌, drop, length, map}
use Rattle.pdc_cfg.specs.Section.{fields_of_view}
use Rattle.pdc_cfg.specs.Config.{Begins}
use Rattle.pdc_cfg.proofs.section_reading.read_sections.Given as goal

abbrev pub invariant-loop : goal.invariant-loop
invariant-loop l = record {
  begins : Begins l.body (map fields_of_view l.sections.items) (drop l.place l.body);
  count : length l.sections.items ≡ l.counter;
  within : l.place ≤ length l.body;
}
