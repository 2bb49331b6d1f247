use Rattle.std.proofs.Common.{◌≡◌, ◌-◌}
use Rattle.std.specs.List.{list_all, range_with_len}
use Rattle.pdc_life.specs.Given.{streams_of}
use Rattle.pdc_life.specs.Row.{is_not_awaited}
use Rattle.pdc_plain_steps.specs.Views.{given_view, life_view}
use Rattle.pdc_plain_steps.proofs.closing.have_all_come.Given as goal

-- what is left tells whether all have come
abbrev pub invariant-loop-stream : goal.invariant-loop-stream
invariant-loop-stream l =
    list_all (is_not_awaited (given_view l.given) (life_view l.life) l.instant) (range_with_len l.stream (l.streams - l.stream))
    ≡ list_all (is_not_awaited (given_view l.given) (life_view l.life) l.instant) (streams_of (given_view l.given))
