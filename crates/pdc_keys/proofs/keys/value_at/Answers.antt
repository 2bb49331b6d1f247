use Rattle.std.proofs.Common.{◌∙◌, ap}
use Rattle.toml.proofs.Views.{table_get}
use Rattle.toml.specs.Data.{get_member}
use Rattle.toml.specs.View.{table_view}
use Rattle.pdc_keys.proofs.keys.value_at.Goals as goal

pub returns : goal.returns
returns c =
    table_get c.get.result c.key-name.result.now c.args.table.now.entries c.get.ensures.value
    ∙ ap (λ name. get_member name (table_view c.args.table.now)) c.key-name.ensures
