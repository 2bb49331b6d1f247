use Rattle.std.proofs.Common.{◌∙◌, ap, sym, None}
use Rattle.std.specs.Prelude.{if◌then◌else◌, option_and_then}
use Rattle.toml.specs.View.{items_view}
use Rattle.pdc_settings.specs.Entries.{each_of}
use Rattle.pdc_keys.specs.Places.{as_place}
use Rattle.pdc_settings.specs.Network.{few_outputs}
use Rattle.pdc_settings.proofs.Tables.{some-outputs}
use Rattle.pdc_settings.proofs.read_network.few_texts.Goals as goal

pub returns-then-not-are_few-clause-fault : goal.returns-then-not-are_few-clause-fault
returns-then-not-are_few-clause-fault c =
    ap (option_and_then few_outputs) (sym c.in-Some.ensures) ∙ some-outputs c.in-Some.values.now
    ∙ ap (λ b. if b then each_of as_place (items_view c.in-Some.values.now) else None) (sym c.are_few.ensures ∙ c.if-not-are_few.true)

pub returns-clause-value : goal.returns-clause-value
returns-clause-value c =
    ap (option_and_then few_outputs) (sym c.in-Some.ensures) ∙ some-outputs c.in-Some.values.now
    ∙ ap (λ b. if b then each_of as_place (items_view c.in-Some.values.now) else None) (sym c.are_few.ensures ∙ c.if-not-are_few.false)
    ∙ c.in_ok-texts.ensures.value
