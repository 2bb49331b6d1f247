use Rattle.std.proofs.Common.{rules, ◌≡◌, ◌++◌, ◌∙◌, sym, ap, map, append-nil, length, refl, Some}
use Rattle.pdc_row.specs.RowView.{row_view, row_instants}
use Rattle.pdc_row.specs.Rising.{highest_of}
use Rattle.pdc_table.specs.OpenInstants.{instants_of}
use Rattle.pdc_table.proofs.Highest.{highest_open, highest_closed, no_rows}
use Rattle.try_script.proofs.rows.highest.Goals as goal

pub returns-in-Some-default : goal.returns-in-Some-default
returns-in-Some-default c =
    ap (λ n. Some n) c.instant.ensures ∙ sym (highest_open (row_instants (map row_view c.args.closed.now.items)) c.args.rows.now c.in-Some-default.row.now c.in-Some-default.ensures.value)

pub returns-in-None-Some : goal.returns-in-None-Some
returns-in-None-Some c =
    let len : length c.args.closed.now.items ≡ length c.args.closed.now.items = search rules in
    sym (ap (λ rows. highest_of (row_instants (map row_view c.args.closed.now.items) ++ instants_of rows)) (no_rows c.args.rows.now c.in-None-Some.ensures.item.0)
    ∙ ap highest_of (append-nil (row_instants (map row_view c.args.closed.now.items)))
    ∙ highest_closed c.args.closed.now.items c.in-None-Some.row.now (length c.args.closed.now.items) len (c.in-None-Some.ensures'.variant.0 refl) c.in-None-Some.ensures'.lookup)
