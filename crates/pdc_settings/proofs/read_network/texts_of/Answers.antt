use Rattle.std.proofs.Common.{◌+◌, ◌∙◌, ◌++◌, ◌∷◌, [], length, ap, map, sym, arith, Some}
use Rattle.std.specs.Prelude.{string_bytes}
use Rattle.std.proofs.lemmas.List.{map_push, length-append}
use Rattle.pdc_keys.specs.Places.{as_place}
use Rattle.pdc_settings.proofs.Tables.{each-taken, none-taken, unread-of}
use Rattle.pdc_settings.proofs.read_network.texts_of.Goals as goal

pub returns-in-Err-clause-fault : goal.returns-in-Err-clause-fault
returns-in-Err-clause-fault c =
    unread-of c.in-Err.unread
    (none-taken as_place c.args.values.now c.loop-value.value-index c.value-item.result (omega (arith, c.loop-value-test.true)) c.value-item.is) c.in-Err.ensures.fault

pub loop-value-preserved : goal.loop-value-preserved
loop-value-preserved c =
    let pushed = c.push_reserved.ensures.items ∙ ap (λ texts. texts ++ c.in-Ok.text ∷ []) c.make_room.ensures.items in
    record {
      len = ap length pushed ∙ length-append c.loop-value.texts.items (c.in-Ok.text ∷ []) ∙ ap (λ n. n + 1) c.loop-value.invariant.len;
      end = c.loop-value.invariant.end;
      each = each-taken as_place c.args.values.now c.loop-value.value-index (map string_bytes c.loop-value.texts.items) c.value-item.result (string_bytes c.in-Ok.text) (omega (arith, c.loop-value-test.true)) c.value-item.is
          c.loop-value.invariant.each c.in-Ok.ensures.value
          ∙ ap (λ texts. Some texts) (sym (map_push string_bytes c.loop-value.texts.items c.in-Ok.text) ∙ ap (map string_bytes) (sym pushed));
    }
