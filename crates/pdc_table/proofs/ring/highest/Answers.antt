use Rattle.std.proofs.Common.{rules, ◌≡◌, ◌++◌, ◌∙◌, sym, ap, append-nil, length, refl}
use Rattle.pdc_open_row.specs.pdc_row.Rising.{highest_of}
use Rattle.pdc_table.proofs.Highest.{highest_last, highest_number, no_numbers}
use Rattle.pdc_table.proofs.ring.highest.Goals as goal

pub returns-in-Some-default : goal.returns-in-Some-default
returns-in-Some-default c =
    sym (highest_number c.args.closed.now.items c.args.instants.now c.in-Some-default.instant.now c.in-Some-default.ensures.value)

pub returns-in-None-Some : goal.returns-in-None-Some
returns-in-None-Some c =
    let len : length c.args.closed.now.items ≡ length c.args.closed.now.items = search rules in
    sym (ap (λ ns. highest_of (c.args.closed.now.items ++ ns)) (no_numbers c.args.instants.now c.in-None-Some.ensures.item.0)
    ∙ ap highest_of (append-nil c.args.closed.now.items)
    ∙ highest_last c.args.closed.now.items c.in-None-Some.instant.now (length c.args.closed.now.items) len (c.in-None-Some.ensures'.variant.0 refl) c.in-None-Some.ensures'.lookup)
