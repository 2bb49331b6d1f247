use Rattle.std.proofs.Common.{◌≡◌, ◌++◌, List, subst}
use Rattle.std.specs.Prelude.{OnOk}
use Rattle.pdc_life.specs.Published.{layout_wire}
use Rattle.pdc_plain_steps.specs.Views.{given_view, life_view}
use Rattle.pdc_plain_steps.specs.declared.steps.Answered.{Answered}
use Rattle.pdc_plain.proofs.life.Life.layout.Goals as goal

pub returns-clause-ok : goal.returns-clause-ok
returns-clause-ok c =
    subst (λ (entries : List Answered). OnOk c.append_layout_of.result (c.append_layout_of.new.out.items ≡ c.args.out.now.items ++ layout_wire (given_view c.args.self.now.given) (life_view entries) c.args.soc))
    c.deref.ensures.value c.append_layout_of.ensures.ok
