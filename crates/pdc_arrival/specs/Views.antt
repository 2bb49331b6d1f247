-- What contracts see of what bytes say, wherever they lie in memory.
use Rattle.std.specs.Prelude.{ℕ, map, option_map}
use Rattle.pdc_life.specs.pdc_cfg.Section.{SectionFields, fields_of_view}
use Rattle.pdc_arrival.specs.declared.arrival.Arrival.{Arrival as ArrivalData}
use Rattle.pdc_arrival.specs.declared.arrival.Arrival.TheVariants as arrival
use Rattle.pdc_arrival.specs.declared.arrival.ColumnSection.{ColumnSection}
use Rattle.pdc_arrival.specs.declared.arrival.Stamp.{Stamp as StampData}
use Rattle.pdc_life.specs.Arrival.{Arrival, BytesRefused, Data, Layout, Stamp}

abbrev pub stamp_view : StampData → Stamp
stamp_view s = record { start = s.start; change = s.change }

abbrev pub section_part : ColumnSection → ℕ × SectionFields
section_part s = (s.column, fields_of_view s.section)

abbrev pub arrival_view : ArrivalData → Arrival
arrival_view (arrival.BytesRefused refusal) = BytesRefused refusal
arrival_view (arrival.Data instant quality payload) = Data instant quality payload.now
arrival_view (arrival.Layout stamp sections) = Layout (option_map stamp_view stamp) (map section_part sections.items)
