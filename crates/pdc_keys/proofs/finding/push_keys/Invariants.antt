use Rattle.std.proofs.Common.{◌≡◌, ◌++◌, map}
use Rattle.std.specs.Prelude.{string_bytes}
use Rattle.toml.specs.View.{table_view}
use Rattle.pdc_keys.specs.Table.{names_in}
use Rattle.pdc_keys.specs.Unknown.{keys_of, unknown_among, unknown_fields}
use Rattle.pdc_keys.proofs.finding.push_keys.Given as goal

-- what is found, and what is among the keys to come
abbrev pub invariant-loop-key : goal.invariant-loop-key
invariant-loop-key l =
    map unknown_fields l.found.items ++ unknown_among l.fn.table (names_in l.fn.known l.fn.keys) (map string_bytes l.key-iterator)
    ≡ map unknown_fields l.fn.found.items ++ unknown_among l.fn.table (names_in l.fn.known l.fn.keys) (keys_of (table_view l.fn.members))
