use Rattle.std.proofs.Common.{◌≡◌, ◌+◌, ◌++◌, drop, length, map}
use Rattle.toml.specs.View.{items_view}
use Rattle.pdc_keys.specs.Table.{names_in}
use Rattle.pdc_keys.specs.Unknown.{unknown_fields, unknown_from}
use Rattle.pdc_keys.specs.declared.owner.KeyTable.TheVariants.{MergedNode}
use Rattle.pdc_keys.specs.declared.unknown.TableName.TheVariants.{Node}
use Rattle.pdc_keys.proofs.finding.push_nodes.Given as goal

-- what is found, and what the tables to come have
abbrev pub invariant-loop-at : goal.invariant-loop-at
invariant-loop-at l = record {
  end : l.at-end ≡ length l.fn.values;
  found : map unknown_fields l.found.items ++ unknown_from Node (names_in MergedNode l.fn.keys) (l.at + 1) (items_view (drop l.at l.fn.values))
      ≡ map unknown_fields l.fn.found.items ++ unknown_from Node (names_in MergedNode l.fn.keys) 1 (items_view l.fn.values);
}
