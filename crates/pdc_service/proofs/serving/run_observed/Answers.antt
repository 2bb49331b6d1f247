use Rattle.std.proofs.Common.{refl, subst, sym, ◌≡◌}
use Rattle.pdc_service.specs.Handed.{TicksBy}
use Rattle.pdc_service.proofs.Handing.{ticked_by, ticks_by}
use Rattle.pdc_service.proofs.serving.run_observed.Goals as goal

pub returns : goal.returns
returns g c =
    let ran = c.run_ticked.ensures in
    let ticker = c.new-ticker.result in
    let time : ticker.ticker.time ≡ c.args.opened.time = rw (c.new-ticker.ensures, c.new-clock.ensures) refl in record {
      totals = ran.totals;
      each = ran.each;
      faults = ran.faults;
      handed = ticked_by
          (λ nows given. subst (λ r. TicksBy g.T.Timepiece.showed c.args.opened.time r nows) (sym c.requires.rate)
          (subst (λ t. TicksBy g.T.Timepiece.showed t g.N.Rated.rate nows) time
          (ticks_by _ g.T.Timepiece.showed g.N.Rated.rate (λ i. i.ticker.time) ticker (λ i times shown. (times, shown, refl)) (λ i ns gave. gave) nows given)))
          ran.handed;
    }
