use Rattle.std.proofs.Common.{◌≡◌, length, take, Some}
use Rattle.toml.specs.View.{items_view}
use Rattle.pdc_settings.specs.Entries.{each_of, port_of}
use Rattle.pdc_settings.proofs.read_node.read_ports.Given as goal

-- the ports of the tables so far
abbrev pub invariant-loop-value : goal.invariant-loop-value
invariant-loop-value l = record {
  len : length l.ports.items ≡ l.value-index;
  end : l.value-index-end ≡ length l.fn.values;
  each : each_of port_of (items_view (take l.value-index l.fn.values)) ≡ Some l.ports.items;
}
