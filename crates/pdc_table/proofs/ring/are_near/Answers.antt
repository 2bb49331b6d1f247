use Rattle.std.proofs.Common.{◌≡◌, ◌++◌, ◌&&◌, ◌∙◌, ap, List, ℕ, true, false}
use Rattle.std.specs.List.{slice_get}
use Rattle.pdc_open_row.specs.pdc_row.Rising.{highest_of, is_near_any}
use Rattle.pdc_table.proofs.ring.are_near.Goals as goal

pub returns-then-is_near : goal.returns-then-is_near
returns-then-is_near c =
    let held : List ℕ = c.args.closed.now.items ++ c.args.instants.now in
    let low : true ≡ is_near_any c.args.window c.args.instant (slice_get held 0) = c.if-is_near.ensures ∙ ap (is_near_any c.args.window c.args.instant) c.lowest.ensures in
    c.is_near-then-is_near.ensures ∙ ap (is_near_any c.args.window c.args.instant) c.highest.ensures
    ∙ ap (λ b. b && is_near_any c.args.window c.args.instant (highest_of held)) low
    ∙ c.numbers_rise.ensures.ends_near c.args.window c.args.instant 0 held c.requires

pub returns-else-is_near : goal.returns-else-is_near
returns-else-is_near c =
    let held : List ℕ = c.args.closed.now.items ++ c.args.instants.now in
    let low : false ≡ is_near_any c.args.window c.args.instant (slice_get held 0) = c.if-is_near.ensures ∙ ap (is_near_any c.args.window c.args.instant) c.lowest.ensures in
    c.if-is_near.false
    ∙ ap (λ b. b && is_near_any c.args.window c.args.instant (highest_of held)) low
    ∙ c.numbers_rise.ensures.ends_near c.args.window c.args.instant 0 held c.requires
