use Rattle.std.proofs.Common.{◌≡◌, length, take}
use Rattle.toml.specs.View.{items_view}
use Rattle.pdc_settings.specs.Inputs.{EachSays, IsInput}
use Rattle.pdc_settings.proofs.read_inputs.read_inputs.Given as goal

-- what the tables so far say
abbrev pub invariant-loop-value : goal.invariant-loop-value
invariant-loop-value l = record {
  len : length l.inputs.items ≡ l.value-index;
  end : l.value-index-end ≡ length l.fn.values;
  each : EachSays IsInput (items_view (take l.value-index l.fn.values)) l.inputs.items;
}
