use Rattle.std.proofs.Common.{◌≡◌, false, replicate, ap, refl, ◌∙◌}
use Rattle.pdc_table.specs.pdc_open_row.Streams.{stream_count}
use Rattle.try_script.proofs.sorted_table.SortedTableTable.new.Goals as goal

pub returns-clause-content : goal.returns-clause-content
returns-clause-content c =
    let required : c.falses.result.items ≡ replicate (stream_count c.args.columns c.args.lanes) false = c.falses.ensures ∙ ap (λ n. replicate n false) c.stream_count-streams.ensures.value in
    rw (required, c.in_ok-with_room.ensures.items, c.in_ok-with_capacity.ensures.held) refl
