use Rattle.std.proofs.Common.{◌≡◌, ◌∙◌, ap, sym, arith, None, Some}
use Rattle.toml.specs.View.{items_view}
use Rattle.pdc_settings.specs.Entries.{each_of, port_of}
use Rattle.pdc_settings.proofs.Tables.{each-taken, none-taken, on_err}
use Rattle.pdc_settings.proofs.read_node.read_ports.Goals as goal

pub returns-in_err-port_of-clause-none : goal.returns-in_err-port_of-clause-none
returns-in_err-port_of-clause-none c =
    on_err c.from_residual.result (each_of port_of (items_view c.args.values.now) ≡ None)
    (none-taken port_of c.args.values.now c.loop-value.value-index c.value-item.result (omega (arith, c.loop-value-test.true)) c.value-item.is c.in_err-port_of.ensures.none)

pub loop-value-preserved : goal.loop-value-preserved
loop-value-preserved c = record {
  len = omega (arith, c.push.ensures.len, c.loop-value.invariant.len);
  end = c.loop-value.invariant.end;
  each = each-taken port_of c.args.values.now c.loop-value.value-index c.loop-value.ports.items c.value-item.result c.in_ok-port_of.field-0 (omega (arith, c.loop-value-test.true)) c.value-item.is c.loop-value.invariant.each c.in_ok-port_of.ensures.value
      ∙ ap Some (sym c.push.ensures.items);
}
