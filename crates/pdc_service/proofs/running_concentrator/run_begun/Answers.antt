use Rattle.std.proofs.Common.{refl, rules}
use Rattle.pdc_publisher.specs.Publisher.{mark_in}
use Rattle.pdc_startup.specs.Begun.{begun_mark}
use Rattle.pdc_aligner.specs.Device.{standing_of}
use Rattle.pdc_threads.specs.OneRun.{found_by}
use Rattle.pdc_service.proofs.Nothing.{nothing_run, one_of, standing_is}
use Rattle.pdc_service.proofs.running_concentrator.run_begun.Goals as goal

pub returns-clause-one : goal.returns-clause-one
returns-clause-one g c =
    let stored = g.W.Mark.Mark.stored in
    let ran = c.opened.result in
    one_of g.C.Core.rules (stored (mark_in c.new-publisher.result)) (stored (begun_mark c.args.handed.mark)) (found_by (stored (mark_in ran.publisher)) (standing_of ran.publisher) (g.W.Sink.Sink.failures_of ran.sink))
    (search rules) (search rules) (search rules) (search rules) (search rules) (standing_is (search rules) (search rules) (search rules)) c.opened.ensures.one

pub returns-in_default-clause-one : goal.returns-in_default-clause-one
returns-in_default-clause-one g c =
    let kept = c.not_run.ensures.kept in
    let p = c.new-publisher.result in
    let life = c.args.life.now in
    let stored = g.W.Mark.Mark.stored (begun_mark c.args.handed.mark) in
    let given = g.C.Opens.given_with life.settings.now stored.start stored.floor stored.counts in
    let found = found_by (g.W.Mark.Mark.stored (mark_in p)) (standing_of p) (g.W.Sink.Sink.failures_of c.args.handed.sink) in
    rw (c.not_run.ensures.outcome, kept.0, kept.1)
    (one_of g.C.Core.rules found.stored stored found refl refl refl refl (search rules) (standing_is (search rules) (search rules) (search rules))
    (∣ nothing_run g.C.Core.rules (g.C.Settings.Reads.says life.settings.now) given life.output life.output.rate life.plan.now.layout_every g.W.Source.Source.told g.W.Ticker.Ticker.gave c.args.handed.ticker found c.args.handed.sources.items (g.W.Sink.Sink.nothing c.args.handed.sink) ∣₁))
