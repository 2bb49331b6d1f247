use Rattle.std.proofs.Common.{◌++◌, ◌∙◌, ap, map}
use Rattle.std.specs.Prelude.{string_bytes}
use Rattle.pdc_keys.specs.Table.{names_in}
use Rattle.pdc_keys.specs.Unknown.{unknown_among, unknown_fields}
use Rattle.pdc_keys.proofs.Tables.{keys-seen}
use Rattle.pdc_keys.proofs.finding.push_keys.Goals as goal

pub loop-key-init : goal.loop-key-init
loop-key-init c =
    ap (λ names. map unknown_fields c.args.found.now.items ++ unknown_among c.args.table (names_in c.args.known c.args.keys.now) names)
    (ap (map string_bytes) (c.into_iter-key-iterator.ensures.into_iter_gives ∙ c.keys-key-items.ensures.rest) ∙ keys-seen c.args.members.now.entries)
