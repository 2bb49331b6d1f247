use Rattle.std.proofs.Common.{◌≡◌, length, map, take, Some}
use Rattle.std.specs.Prelude.{string_bytes}
use Rattle.toml.specs.View.{items_view}
use Rattle.pdc_settings.specs.Entries.{each_of}
use Rattle.pdc_keys.specs.Places.{as_place}
use Rattle.pdc_settings.proofs.read_network.texts_of.Given as goal

-- the texts of the values so far
abbrev pub invariant-loop-value : goal.invariant-loop-value
invariant-loop-value l = record {
  len : length l.texts.items ≡ l.value-index;
  end : l.value-index-end ≡ length l.fn.values;
  each : each_of as_place (items_view (take l.value-index l.fn.values)) ≡ Some (map string_bytes l.texts.items);
}
