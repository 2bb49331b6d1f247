-- What contracts see of what bytes say, wherever they lie in memory.
use Rattle.std.specs.Prelude.{◌∷◌}
use Rattle.pdc_life.specs.Names.{[], fields_of_view, None, ℕ}
use Rattle.pdc_row.specs.pdc_cfg.declared.section.SectionView.{SectionView}
use Rattle.pdc_life.specs.Arrival.{Arrival, BytesRefused, Data, Layout}
use Rattle.pdc_life.specs.declared.reading.Reading.{Reading}
use Rattle.pdc_life.specs.declared.reading.Reading.TheVariants as reading

-- for the stream with this number, whose column it is too
abbrev pub arrival_view : (p : ℕ) → Reading SectionView → Arrival
arrival_view p (reading.BytesRefused refusal) = BytesRefused refusal
arrival_view p (reading.Data instant quality payload) = Data instant quality payload.now
arrival_view p (reading.Configuration section) = Layout None ((p, fields_of_view section) ∷ [])
