use Rattle.std.proofs.Common.{◌≡◌, ◌∙◌, ap, length}
use Rattle.std.proofs.lemmas.Result.{IfOk-weaker}
use Rattle.pdc_life.specs.declared.given.Settings.{Settings}
use Rattle.pdc_node.specs.Node.{NodeView}
use Rattle.try_calls.proofs.tests.nodes.node.Goals as goal

pub returns : goal.returns
returns g c =
    IfOk-weaker c.open.result (λ (n : NodeView). n.settings ≡ c.settings.result) (λ (n : NodeView). length n.settings.pmus.items ≡ 1)
    (λ n e. ap (λ (s : Settings). length s.pmus.items) e ∙ c.settings.ensures) c.open.ensures.settings
