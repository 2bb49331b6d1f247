use Rattle.std.proofs.Common.{◌∙◌, arith, false, refl, true}
use Rattle.pdc_open_row.specs.Due.{all_taken}
use Rattle.pdc_open_row.proofs.TakenParts.{taken_parts}
use Rattle.pdc_open_row.proofs.streams.all_taken.Goals as goal

pub returns-then-sixteen_taken : goal.returns-then-sixteen_taken
returns-then-sixteen_taken c =
    taken_parts 16 true c.some_taken-then-sixteen_taken.result c.args.required.now c.args.taken.now c.split_at.result.0.now c.split_at-2.result.0.now c.split_at.result.1.now c.split_at-2.result.1.now
    (omega (arith, c.if-required-lt-MOST_AT_ONCE.false)) (omega (arith, c.if-taken-lt-MOST_AT_ONCE.false))
    c.split_at.ensures.front c.split_at-2.ensures.front c.split_at.ensures.back c.split_at-2.ensures.back c.if-sixteen_taken.ensures c.some_taken-then-sixteen_taken.ensures

pub returns-else-sixteen_taken : goal.returns-else-sixteen_taken
returns-else-sixteen_taken c =
    c.if-sixteen_taken.false
    ∙ taken_parts 16 false (all_taken c.split_at.result.1.now c.split_at-2.result.1.now) c.args.required.now c.args.taken.now c.split_at.result.0.now c.split_at-2.result.0.now c.split_at.result.1.now c.split_at-2.result.1.now
    (omega (arith, c.if-required-lt-MOST_AT_ONCE.false)) (omega (arith, c.if-taken-lt-MOST_AT_ONCE.false))
    c.split_at.ensures.front c.split_at-2.ensures.front c.split_at.ensures.back c.split_at-2.ensures.back c.if-sixteen_taken.ensures refl
