-- Ids of which no two are the same.
use Rattle.std.specs.Prelude.{◌&&◌, ◌==◌, ◌∷◌}
use Rattle.pdc_life.specs.Names.{[], Bool, List, list_any, not, true, ℕ}

abbrev pub are_distinct : List ℕ → Bool
are_distinct [] = true
are_distinct (id ∷ ids) = not (list_any (λ other. other == id) ids) && are_distinct ids
