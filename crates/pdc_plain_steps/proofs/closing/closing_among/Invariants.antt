use Rattle.std.proofs.Common.{◌≡◌, ◌||◌, filter, not, take}
use Rattle.std.specs.Prelude.{nat_le}
use Rattle.std.specs.List.{list_all}
use Rattle.pdc_life.specs.Row.{is_due}
use Rattle.pdc_plain_steps.specs.Views.{given_view, life_view}
use Rattle.pdc_plain_steps.proofs.closing.closing_among.Given as goal

abbrev pub invariant-loop-instant : goal.invariant-loop-instant
invariant-loop-instant l =
    l.closing.items
    ≡ filter (λ i. list_all (λ j. not (nat_le j i) || is_due (given_view l.given) (life_view l.life) l.now j) l.open_instants) (take l.instant-index l.open_instants)
