use Rattle.std.proofs.Common.{◌∙◌, arith, false, refl, true}
use Rattle.pdc_open_row.specs.Due.{all_taken}
use Rattle.pdc_open_row.proofs.TakenParts.{taken_parts}
use Rattle.pdc_open_row.proofs.streams.+some_taken.Goals as goal

pub returns-then-eight_taken : goal.returns-then-eight_taken
returns-then-eight_taken t c =
    taken_parts 8 true c.some_taken.result c.args.required.now c.args.taken.now c.split_at.result.0.now c.split_at-2.result.0.now c.split_at.result.1.now c.split_at-2.result.1.now
    (omega (arith, c.if-required-lt-STREAMS_AT_ONCE.false)) (omega (arith, c.if-taken-lt-STREAMS_AT_ONCE.false))
    c.split_at.ensures.front c.split_at-2.ensures.front c.split_at.ensures.back c.split_at-2.ensures.back c.if-eight_taken.ensures c.some_taken.ensures

pub returns-else-eight_taken : goal.returns-else-eight_taken
returns-else-eight_taken t c =
    c.if-eight_taken.false
    ∙ taken_parts 8 false (all_taken c.split_at.result.1.now c.split_at-2.result.1.now) c.args.required.now c.args.taken.now c.split_at.result.0.now c.split_at-2.result.0.now c.split_at.result.1.now c.split_at-2.result.1.now
    (omega (arith, c.if-required-lt-STREAMS_AT_ONCE.false)) (omega (arith, c.if-taken-lt-STREAMS_AT_ONCE.false))
    c.split_at.ensures.front c.split_at-2.ensures.front c.split_at.ensures.back c.split_at-2.ensures.back c.if-eight_taken.ensures refl
