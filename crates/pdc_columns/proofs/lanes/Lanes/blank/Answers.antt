use Rattle.std.proofs.Common.{◌≡◌, ◌∙◌, List, ap, length, replicate, take}
use Rattle.std.proofs.lemmas.List.{length-replicate, take-replicate}
use Rattle.pdc_columns.specs.ColumnParts.{nothing}
use Rattle.pdc_columns.specs.declared.column.Held.{Held}
use Rattle.pdc_columns.proofs.lanes.Lanes.blank.Goals as goal

pub returns : goal.returns
returns c =
    let each : c.truncate.new.self.items ≡ replicate c.args.count nothing =
    c.truncate.ensures.items ∙ ap (take c.args.count) c.from_array_in-each.ensures.items ∙ take-replicate c.args.count 16 nothing c.requires in
    ap (λ (xs : List Held). replicate (length xs) nothing) each ∙ ap (λ n. replicate n nothing) (length-replicate c.args.count nothing)
