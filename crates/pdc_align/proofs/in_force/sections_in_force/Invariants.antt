use Rattle.std.proofs.Common.{◌≡◌, ◌≤◌, ◌-◌, ◌++◌, List, length, map}
use Rattle.std.specs.List.{filter_map, range_with_len}
use Rattle.pdc_align.specs.Align.{StandsFor}
use Rattle.pdc_arrival.specs.pdc_cfg.Section.{fields_of_view}
use Rattle.pdc_arrival.specs.pdc_life.Given.{Given}
use Rattle.pdc_arrival.specs.pdc_life.Life.{Entry, section_in_force}
use Rattle.pdc_align.proofs.in_force.sections_in_force.Given as goal

-- the sections so far, and those of the columns that are left
abbrev pub invariant-loop-column : goal.invariant-loop-column
invariant-loop-column g l = record {
  few : length l.sections.items ≤ l.column;
  all : (h : Given) (E : List Entry) → StandsFor h E l.alignment.state →
      map fields_of_view l.sections.items ++ filter_map (section_in_force h E) (range_with_len l.column (l.columns - l.column)) ≡ filter_map (section_in_force h E) (range_with_len 0 l.columns);
}
