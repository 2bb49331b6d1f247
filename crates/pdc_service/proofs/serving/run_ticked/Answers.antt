use Rattle.std.proofs.Common.{Ok, Result, ap, refl, subst, sym, ◌≡◌, ◌∙◌}
use Rattle.std.specs.Prelude.{◌+◌, ◌-◌, ◌<◌, ◌^◌, IfErr, IfOk, length}
use Rattle.pdc_startup.specs.Begun.{begun_mark}
use Rattle.pdc_startup.specs.pdc_sockets.Concentrator.{service_of, streams_of}
use Rattle.pdc_startup.specs.Faults.{IsOfRun}
use Rattle.pdc_startup.specs.Watching.{source_in}
use Rattle.pdc_startup.specs.declared.fault.ServiceFault.{ServiceFault}
use Rattle.pdc_threads.specs.Run.{GivesFrom}
use Rattle.pdc_threads.specs.declared.totals.Totals.{Totals}
use Rattle.pdc_service.specs.Ended.{kind_of}
use Rattle.pdc_service.specs.Summed.{AreSums, HaveEach}
use Rattle.pdc_service.proofs.Handing.{answered_err, answered_ok, gives_none, handed_by, nothing_handed, of_ok, over_handed}
use Rattle.pdc_service.proofs.serving.run_ticked.Goals as goal

pub returns-in_default : goal.returns-in_default
returns-in_default g c =
    let o = c.args.opened in
    let concentrator = c.args.serving.now.concentrator.now in record {
      totals = tt;
      each = tt;
      faults = tt;
      handed = nothing_handed (kind_of concentrator) (service_of concentrator).layout_every (g.M.Mark.stored (begun_mark o.mark)) g.S.Source.told o.sources.items (GivesFrom g.I.Ticker.gave o.time) g.K.Sink.took o.sink
          (gives_none g.I.Ticker.gave o.time) (g.K.Sink.nothing o.sink);
    }

pub returns : goal.returns
returns g c =
    let last = c.new-sink-3.result in
    let ticker = c.new-ticker-3.result in
    let outcome = c.run_concentrator-outcome.result in
    let ended = c.run_concentrator-outcome.ensures in
    let answer = c.answer.result in
    let late = c.load-is_unreadable.result in
    let e = sym c.answer.ensures in
    let ok = subst (λ (r : Result Totals ServiceFault). IfOk r (λ totals. outcome ≡ Ok totals)) e (answered_ok outcome late) in
    let sink : last.inner.inner.inner ≡ c.args.opened.sink = rw (c.new-sink-3.ensures, c.new-sink-2.ensures.0, c.new-sink.ensures) refl in
    let mark : g.M.Mark.stored (begun_mark c.timed-mark.result).inner ≡ g.M.Mark.stored (begun_mark c.args.opened.mark) = rw c.timed-mark.ensures refl in
    let time : ticker.inner.inner.inner ≡ c.args.opened.time = rw (c.new-ticker-3.ensures, c.new-ticker-2.ensures, c.new-ticker.ensures) refl in
    let every : c.plan_of-plan.result.layout_every ≡ (service_of c.args.serving.now.concentrator.now).layout_every = c.plan_of-plan.ensures.every ∙ ap (λ s. s.layout_every) c.service_settings.ensures in
    record {
      totals = of_ok AreSums outcome answer ok ended.totals;
      each = of_ok (HaveEach (streams_of c.args.serving.now.concentrator.now)) outcome answer ok ended.each;
      faults = subst (λ (r : Result Totals ServiceFault). IfErr r IsOfRun) e (answered_err outcome late);
      handed = handed_by sink mark every (over_handed g.K.Sink.took last.inner.inner.inner (λ left. left.inner.inner.inner) (λ left some given. left.inner.refused < 2 ^ 64 - 1 → left.inner.refused + length some ≡ last.inner.refused + length given) source_in answer late c.answer.ensures
          (λ w heard t. (t.0.inner.inner.inner, t.1))
          (λ nows given. subst (λ i. GivesFrom g.I.Ticker.gave i nows) time (given.0.inner.inner.inner, given.1))
          c.in-Some.ensures.same ended.over);
    }
