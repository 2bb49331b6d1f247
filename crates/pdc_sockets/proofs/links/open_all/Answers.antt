use Rattle.std.proofs.Common.{arith, rules, ◌≡◌, ◌∙◌, ◌∷◌, [], Some, ap, length, length-append, refl, subst, sym}
use Rattle.std.proofs.lemmas.Option.{slice_get-get_or, slice_get_read}
use Rattle.std.specs.Prelude.{slice_get}
use Rattle.pdc_sockets.specs.Links.{AreLinksOf, IsLinkOf}
use Rattle.pdc_sockets.proofs.OneMore.{link_more}
use Rattle.pdc_sockets.proofs.links.open_all.Goals as goal

pub loop-port-preserved : goal.loop-port-preserved
loop-port-preserved g c =
    let network = c.args.network.now in
    let ports = c.args.ports.now in
    let old = c.loop-port.links.sources.items in
    let found = c.deref.result.now in
    let number = c.len-number.result in
    let input = c.in-Some-get.input.now in
    let lookup = c.in-Some-get.ensures.lookup in
    let read : slice_get found (length old) ≡ Some input =
    ap (slice_get found) (sym c.len-number.ensures) ∙ slice_get_read found (length found) number input refl lookup.3.0 lookup.1 in
    let of_table : slice_get network.inputs.items (length old) ≡ Some input =
    subst (λ items. slice_get items (length old) ≡ Some input) c.deref.ensures.value read in
    let at_port : slice_get ports (length old) ≡ Some c.in-Some.stream.port =
    ap (slice_get ports) c.loop-port.invariant.0 ∙ slice_get-get_or ports c.loop-port.port-index 0 (search rules) ∙ ap Some (sym c.in-Some.ensures) in
    let named : IsLinkOf g.S.Sockets.receives network c.in-Some.stream.port input c.in_ok-link.link = search rules in (
      omega (arith, ap length c.in-Ok.ensures ∙ length-append old (c.in_ok-link.link ∷ []), c.loop-port.invariant.0),
      subst (AreLinksOf g.S.Sockets.receives network network.inputs.items ports) (sym c.in-Ok.ensures)
          (link_more g.S.Sockets.receives network network.inputs.items ports old input c.in-Some.stream.port c.in_ok-link.link c.loop-port.invariant.1 of_table at_port named),
    )
