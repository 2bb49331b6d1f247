use Rattle.std.proofs.Common.{◌≡◌, ◌&&◌, IsTrue, length, take, Some}
use Rattle.std.specs.Prelude.{nat_le, nat_lt}
use Rattle.std.specs.List.{list_all}
use Rattle.toml.specs.View.{items_view}
use Rattle.pdc_frame.specs.declared.limits.TheConstants.{MAX_ID}
use Rattle.pdc_settings.specs.Entries.{each_of, source_at}
use Rattle.pdc_settings.proofs.read_merger.read_sources.Given as goal

-- the sources of the tables so far
abbrev pub invariant-loop-value : goal.invariant-loop-value
invariant-loop-value l = record {
  len : length l.sources.items ≡ l.value-index;
  end : l.value-index-end ≡ length l.fn.values;
  each : each_of source_at (items_view (take l.value-index l.fn.values)) ≡ Some l.sources.items;
  ids : IsTrue (list_all (λ id. nat_lt 0 id && nat_le id MAX_ID) l.sources.items);
}
