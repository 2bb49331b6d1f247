use Rattle.std.proofs.Common.{◌≡◌, ◌∙◌, Some, ap, sym}
use Rattle.std.proofs.lemmas.Option.{same_Some}
use Rattle.pdc_life.specs.CoreKind.{given_of, OfNode}
use Rattle.pdc_life.specs.Given.{Given}
use Rattle.pdc_row.specs.declared.output.Output.{Output}
use Rattle.try_threads.proofs.scene.opened.Goals as goal

pub run-ran-requires-clause-rate : goal.run-ran-requires-clause-rate
run-ran-requires-clause-rate g c κs within =
    let given = given_of (OfNode c.args.settings.now) c.args.stage.start 0 c.args.stage.counts 0 in
    record {
      at = λ h e. ap (λ (x : Given). x.output.rate) (same_Some h given (sym e ∙ c.requires.given)) ∙ sym (ap (λ (o : Output). o.rate) c.requires.publisher.2);
    }

pub run-ran-requires-clause-opened : goal.run-ran-requires-clause-opened
run-ran-requires-clause-opened g c κs within =
    let given = given_of (OfNode c.args.settings.now) c.args.stage.start 0 c.args.stage.counts 0 in
    record {
      start = λ h e. ap (λ (x : Given). x.start) (same_Some h given (sym e ∙ c.requires.given)) ∙ sym c.requires.begins.0;
      floor = λ h e. ap (λ (x : Given). x.floor) (same_Some h given (sym e ∙ c.requires.given)) ∙ sym c.requires.publisher.1;
      counts = λ h e. ap (λ (x : Given). x.counts) (same_Some h given (sym e ∙ c.requires.given)) ∙ sym c.requires.begins.1;
    }
