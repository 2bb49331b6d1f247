use Rattle.std.proofs.Common.{◌≡◌, ◌||◌, ◌∙◌, List, ℕ, filter, not, subst}
use Rattle.std.specs.Prelude.{IfOk, nat_le}
use Rattle.std.specs.List.{list_all}
use Rattle.pdc_life.specs.Life.{open_instants}
use Rattle.pdc_life.specs.Row.{is_due}
use Rattle.pdc_plain_steps.specs.Views.{given_view, life_view}
use Rattle.pdc_plain_steps.proofs.closing.closing.Goals as goal

-- the instants that the loop is given are the open ones
pub returns : goal.returns
returns c =
    let g = given_view c.args.given.now in
    let E = life_view c.args.life.now in
    let all : c.deref.result.now ≡ open_instants g E = c.deref.ensures.value ∙ c.in_ok-open_instants.ensures in
    subst (λ (among : List ℕ). IfOk c.closing_among.result (λ instants. instants.items ≡ filter (λ i. list_all (λ j. not (nat_le j i) || is_due g E c.args.now j) among) among)) all c.closing_among.ensures
