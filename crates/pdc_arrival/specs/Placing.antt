-- Sections beside the columns of their sources, found one after the other. That it finds them where they are is `AreOfTable`.
use Rattle.std.specs.Prelude.{ℕ, ◌+◌, ◌==◌, Bool, true, false, List, [], ◌∷◌, if◌then◌else◌}
use Rattle.pdc_life.specs.pdc_cfg.Section.{SectionFields}

-- the sections beside the columns of these sources, the first of which is the column with this number
abbrev pub parts_from : (column : ℕ) → (sources : List ℕ) → List SectionFields → List (ℕ × SectionFields)
parts_from column sources [] = []
parts_from column [] (s ∷ sections) = []
parts_from column (source ∷ sources) (s ∷ sections) =
    if source == s.source then (column, s) ∷ parts_from (column + 1) sources sections else parts_from (column + 1) sources (s ∷ sections)

-- each section has a source among these, in their order
abbrev pub are_in_order : (sources : List ℕ) → List SectionFields → Bool
are_in_order sources [] = true
are_in_order [] (s ∷ sections) = false
are_in_order (source ∷ sources) (s ∷ sections) = if source == s.source then are_in_order sources sections else are_in_order sources (s ∷ sections)
