use Rattle.std.proofs.Common.{◌≤◌, arith}
use Rattle.pdc_life.specs.Life.{changes}
use Rattle.pdc_plain_steps.specs.Views.{given_view, life_view}
use Rattle.pdc_plain_steps.proofs.ChangeNumbers.{changes_fit}
use Rattle.pdc_plain_steps.proofs.past.change_number.Goals as goal

pub overflow_cast-result : goal.overflow_cast-result
overflow_cast-result c =
    let fit : changes (life_view c.args.life.now) ≤ 4294967295 = changes_fit (given_view c.args.given.now) (life_view c.args.life.now) c.requires in
    omega (arith, fit, c.changes.ensures.count)
