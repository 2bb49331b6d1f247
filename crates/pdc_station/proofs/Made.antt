-- A publish of a station is a call of its core and of its publisher.
use Rattle.std.proofs.Common.{◌++◌, ◌<◌, ◌∙◌, ◌∷◌, ◌≡◌, IfSome, List, None, Option, option_map, refl, Some, sym, ℕ}
use Rattle.pdc_station.proofs.Names.{answered, append-nil, DueRow, Entry, Given, Makes, pop_answer, popped_after, publish_of, row_view, Rules, ToPop, wire_of_some}

pub publish_makes : (rules : Rules) (g : Given) (E : List Entry) (row : Option DueRow) (p q : ℕ) (a b : List ℕ) → option_map row_view row ≡ pop_answer E
    → IfSome row (λ (r : DueRow). p < r.instant) → q ≡ popped_after (option_map row_view row) p → b ≡ a ++ wire_of_some g.output (pop_answer E)
    → Makes rules g (publish_of (option_map row_view row)) (record { life = E; popped = p; bytes = a }) (record { life = answered rules g E ToPop ∷ E; popped = q; bytes = b })
publish_makes rules g E None p q a b is above at more = (sym is, refl, at, more ∙ (λ i. a ++ wire_of_some g.output (sym is i)) ∙ append-nil a)
publish_makes rules g E (Some row) p q a b is above at more =
    (record { given = sym is; above = above; life = refl; popped = at }, more ∙ (λ i. a ++ wire_of_some g.output (sym is i)))
