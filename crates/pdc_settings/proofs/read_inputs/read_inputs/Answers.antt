use Rattle.std.proofs.Common.{◌+◌, ◌∙◌, ◌++◌, ◌∷◌, [], length, take, ap, arith, subst, sym}
use Rattle.std.proofs.lemmas.List.{length-append}
use Rattle.toml.specs.View.{items_view}
use Rattle.pdc_settings.specs.Inputs.{EachSays, IsInput, IsNoInput}
use Rattle.pdc_settings.proofs.Inputs.{one-taken, says-taken}
use Rattle.pdc_settings.proofs.read_inputs.read_inputs.Goals as goal

pub returns-in-Err-clause-fault : goal.returns-in-Err-clause-fault
returns-in-Err-clause-fault c =
    one-taken (IsNoInput c.in-Err.fault) c.args.values.now c.loop-value.value-index c.value-item.result (omega (arith, c.loop-value-test.true)) c.value-item.is c.in-Err.ensures.fault

pub loop-value-preserved : goal.loop-value-preserved
loop-value-preserved c =
    let pushed = c.push_reserved.ensures.items ∙ ap (λ inputs. inputs ++ c.in-Ok.input ∷ []) c.make_room.ensures.items in
    record {
      len = ap length pushed ∙ length-append c.loop-value.inputs.items (c.in-Ok.input ∷ []) ∙ ap (λ n. n + 1) c.loop-value.invariant.len;
      end = c.loop-value.invariant.end;
      each = subst (EachSays IsInput (items_view (take (c.loop-value.value-index + 1) c.args.values.now))) (sym pushed)
          (says-taken IsInput c.args.values.now c.loop-value.value-index c.loop-value.inputs.items c.value-item.result c.in-Ok.input (omega (arith, c.loop-value-test.true)) c.value-item.is c.loop-value.invariant.each c.in-Ok.ensures.value);
    }
