-- What a step adds to the sections that came for a column.
use Rattle.std.proofs.Common.{◌≡◌, ℕ, List, ◌∷◌, ◌++◌, filter, sym, ap}
use Rattle.std.specs.Prelude.{nat_le}
use Rattle.std.proofs.lemmas.List.Elements.{filter-append}
use Rattle.pdc_cfg.specs.Section.{SectionFields}
use Rattle.pdc_life.specs.Given.{Given, count_for}
use Rattle.pdc_life.specs.Life.{Entry, first_greatest, held_section, sections_at, sections_for}

-- those that it brought come before those of the earlier steps
pub held_step : (g : Given) (E : List Entry) (e : Entry) (c : ℕ)
    → first_greatest (filter (λ (s : SectionFields). nat_le (count_for c g.counts) s.count) (sections_at c e) ++ sections_for g E c) ≡ held_section g (e ∷ E) c
held_step g E e c = sym (ap first_greatest (filter-append (λ (s : SectionFields). nat_le (count_for c g.counts) s.count) (sections_at c e) _))
