-- What a life has published, with one row more.
use Rattle.std.proofs.Common.{◌++◌, ◌∙◌, ◌≡◌, ap, List, map, None, Option, refl, Some, ℕ}
use Rattle.pdc_station.proofs.Names.{append-nil, concat, concat-append, Given, map-append, option_to_list, popped, PopsArePublished, published, RowView, wire_of, wire_of_some}

one : (g : Given) (row : Option RowView) → concat (map (wire_of g.output) (option_to_list row)) ≡ wire_of_some g.output row
one g None = refl
one g (Some row) = append-nil (wire_of g.output row)

pub pops : PopsArePublished
pops g E row =
    ap concat (map-append (wire_of g.output) (popped E) (option_to_list row)) ∙ concat-append (map (wire_of g.output) (popped E)) (map (wire_of g.output) (option_to_list row))
    ∙ ap (λ (bytes : List ℕ). concat (published g E) ++ bytes) (one g row)
