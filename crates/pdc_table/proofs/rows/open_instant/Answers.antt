use Rattle.std.proofs.Common.{◌≡◌, ◌∙◌, ap, insert, ltb, rules}
use Rattle.std.specs.List.{prefix_len}
use Rattle.pdc_table.proofs.RingRows.{insert_is_place}
use Rattle.pdc_table.proofs.rows.open_instant.Goals as goal

pub returns-clause-items : goal.returns-clause-items
returns-clause-items c =
    let inserted : c.insert.new.self.items ≡ insert c.args.instants.now.items c.rank-at.result c.args.instant = search rules in
    let rank : c.rank-at.result ≡ prefix_len (λ n. ltb n c.args.instant) c.args.instants.now.items = search rules in
    inserted ∙ ap (λ k. insert c.args.instants.now.items k c.args.instant) rank
    ∙ insert_is_place c.numbers_rise.ensures 0 c.args.instant c.args.instants.now.items c.requires.rising c.requires.absent
