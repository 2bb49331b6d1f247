-- What can arrive at all, whatever the bytes were: a test of the stream and of the columns.
use Rattle.std.specs.Prelude.{ℕ, ◌+◌, ◌==◌, ◌&&◌, Bool, true, List, [], ◌∷◌, length, nat_lt}
use Rattle.std.specs.List.{list_all}
use Rattle.pdc_align.specs.pdc_cfg.Section.{SectionFields}
use Rattle.pdc_align.specs.pdc_life.Arrival.{Arrival}
use Rattle.pdc_align.specs.pdc_life.Run.{sections_of}
use Rattle.pdc_align.specs.pdc_life.declared.given.Settings.{Settings}
use Rattle.pdc_align.specs.pdc_life.declared.merging.MergerSettings.{MergerSettings}

-- the part is of this column
abbrev pub is_of : (column : ℕ) → ℕ × SectionFields → Bool
is_of column part = part.0 == column

-- For a PMU arrive refused bytes, data, and sections of its own column.
abbrev pub fits_node : Settings → ℕ → Arrival → Bool
fits_node settings p arrival = nat_lt p (length settings.pmus.items) && list_all (is_of p) (sections_of arrival)

-- The parts are of rising columns, of which there are so many: the first has its number, and 1, above this.
abbrev pub are_placed : (columns low : ℕ) → List (ℕ × SectionFields) → Bool
are_placed columns low [] = true
are_placed columns low (part ∷ parts) = nat_lt low (part.0 + 1) && (nat_lt part.0 columns && are_placed columns (part.0 + 1) parts)

-- From one of the two nodes arrive refused bytes, data, and sections of rising columns.
abbrev pub fits_merger : MergerSettings → ℕ → Arrival → Bool
fits_merger settings s arrival = nat_lt s 2 && are_placed (length settings.sources.items) 0 (sections_of arrival)
