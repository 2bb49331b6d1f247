use Rattle.std.proofs.Common.{rules, ◌≡◌, ◌∙◌, Some, ap, length, map, refl, string_bytes, subst, sym}
use Rattle.std.proofs.lemmas.Option.{slice_get-map, slice_get_read}
use Rattle.std.specs.Prelude.{option_map, slice_get}
use Rattle.pdc_sockets.specs.Outputs.{AreDestinationsOf}
use Rattle.pdc_sockets.proofs.OneMore.{destination_more}
use Rattle.pdc_sockets.proofs.outputs.open_destinations.Goals as goal

pub loop-output-preserved : goal.loop-output-preserved
loop-output-preserved g c =
    let network = c.args.network.now in
    let old = c.loop-output.destinations.items in
    let found = c.deref-output-items.result.now in
    let text = string_bytes c.output-item.result in
    let here : slice_get network.outputs.items (length old) ≡ Some c.output-item.result =
    subst (λ items. slice_get items (length old) ≡ Some c.output-item.result) c.deref-output-items.ensures.value
    (ap (slice_get found) c.loop-output.invariant.0 ∙ slice_get_read found (length found) c.loop-output.output-index c.output-item.result refl (search rules) c.output-item.is) in
    let there : slice_get (map string_bytes network.outputs.items) (length old) ≡ Some text =
    slice_get-map string_bytes network.outputs.items (length old) ∙ ap (option_map string_bytes) here in
    let opened : g.S.Sockets.sends c.in-Ok.destination text network.ttl = search rules in (
      search rules,
      subst (AreDestinationsOf g.S.Sockets.sends network.ttl (map string_bytes network.outputs.items)) (sym c.in-Ok-push.ensures.items)
          (destination_more g.S.Sockets.sends network.ttl (map string_bytes network.outputs.items) old text c.in-Ok.destination c.loop-output.invariant.1 there opened),
    )
