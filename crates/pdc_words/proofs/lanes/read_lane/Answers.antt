use Rattle.std.proofs.Common.{◌≤◌, ◌+◌, ◌-◌, arith, drop, ◌∙◌}
use Rattle.std.proofs.lemmas.List.{take-take}
use Rattle.pdc_words.proofs.LaneSteps.{turned_read}
use Rattle.pdc_words.proofs.lanes.read_lane.Goals as goal

pub returns-in-Some : goal.returns-in-Some
returns-in-Some c =
    let eight : 8 ≤ c.args.place + 8 - c.args.place = omega arith in
    turned_read _ c.args.place _ c.args.bytes.now (λ i. omega (arith, c.type_inv.bytes i)) c.requires
    (c.in-Some.ensures.cases.0 ∙ take-take 8 _ (drop c.args.place c.args.bytes.now) eight) c.from_le_bytes.ensures

pub returns-in-None : goal.returns-in-None
returns-in-None c = absurd (omega (arith, c.requires, c.in-None.ensures.cases))
