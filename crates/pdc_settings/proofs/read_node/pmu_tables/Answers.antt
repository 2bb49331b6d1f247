use Rattle.std.proofs.Common.{◌∙◌, ap, sym, None, Some}
use Rattle.std.specs.Prelude.{if◌then◌else◌, option_and_then}
use Rattle.toml.specs.View.{items_view}
use Rattle.pdc_settings.specs.Entries.{some_pmus}
use Rattle.pdc_settings.proofs.Tables.{some-tables}
use Rattle.pdc_settings.proofs.read_node.pmu_tables.Goals as goal

pub returns-clause-value : goal.returns-clause-value
returns-clause-value c =
    ap (option_and_then some_pmus) (sym c.in-Some.ensures) ∙ some-tables c.in-Some.values.now
    ∙ ap (λ b. if b then Some (items_view c.in-Some.values.now) else None) (sym c.are_some.ensures ∙ c.if-not-are_some.false)

pub returns-then-not-are_some-clause-none : goal.returns-then-not-are_some-clause-none
returns-then-not-are_some-clause-none c =
    ap (option_and_then some_pmus) (sym c.in-Some.ensures) ∙ some-tables c.in-Some.values.now
    ∙ ap (λ b. if b then Some (items_view c.in-Some.values.now) else None) (sym c.are_some.ensures ∙ c.if-not-are_some.true)
