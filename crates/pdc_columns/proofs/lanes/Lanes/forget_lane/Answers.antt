use Rattle.std.proofs.Common.{◌∙◌, ap, cond, length, map, replicate, sym}
use Rattle.pdc_columns.specs.ColumnParts.{without_lane}
use Rattle.pdc_columns.proofs.HeldOnce.{map_replicated, seen_once}
use Rattle.pdc_columns.proofs.lanes.Lanes.forget_lane.Goals as goal

pub returns-then-self : goal.returns-then-self
returns-then-self c =
    let i = c.self.inside in
    ap (λ b. cond b (replicate (length i.each.items) c.clear.new.self) i.each.items) c.if-self.true
    ∙ ap (replicate (length i.each.items)) c.clear.ensures
    ∙ sym (map_replicated (without_lane c.args.lane) (length i.each.items) i.one)
    ∙ ap (map (without_lane c.args.lane)) (sym (seen_once i.is_one i.one i.each.items c.args.self.now c.if-self.true c.self.view_is))
