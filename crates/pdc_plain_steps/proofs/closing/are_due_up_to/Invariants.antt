use Rattle.std.proofs.Common.{◌≡◌, ◌||◌, drop, not}
use Rattle.std.specs.Prelude.{nat_le}
use Rattle.std.specs.List.{list_all}
use Rattle.pdc_life.specs.Row.{is_due}
use Rattle.pdc_plain_steps.specs.Views.{given_view, life_view}
use Rattle.pdc_plain_steps.proofs.closing.are_due_up_to.Given as goal

-- what is left tells whether all are due
abbrev pub invariant-loop-lower : goal.invariant-loop-lower
invariant-loop-lower l =
    list_all (λ j. not (nat_le j l.instant) || is_due (given_view l.given) (life_view l.life) l.now j) (drop l.lower-index l.open_instants)
    ≡ list_all (λ j. not (nat_le j l.instant) || is_due (given_view l.given) (life_view l.life) l.now j) l.open_instants
