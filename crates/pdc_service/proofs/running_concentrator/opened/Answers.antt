use Rattle.std.proofs.Common.{inl, rules}
use Rattle.pdc_publisher.specs.Publisher.{last_in, mark_in, output_in}
use Rattle.pdc_aligner.specs.Device.{standing_of}
use Rattle.pdc_threads.specs.OneRun.{found_by}
use Rattle.pdc_service.proofs.Nothing.{nothing_run}
use Rattle.pdc_service.proofs.Refused.{either_refused}
use Rattle.pdc_service.proofs.running_concentrator.opened.Goals as goal

pub new-requires-clause-alike : goal.new-requires-clause-alike
new-requires-clause-alike g c = (
  g.C.Opens.given_with c.args.settings.now c.args.first.start (last_in c.args.ready.publisher) c.args.first.counts,
  c.requires.given,
  c.requires.stands,
  search rules,
)

pub returns-clause-one : goal.returns-clause-one
returns-clause-one g c = c.run.ensures.one (g.C.Opens.given_with c.args.settings.now c.args.first.start (last_in c.args.ready.publisher) c.args.first.counts) c.requires.given

pub returns-in_default-clause-one : goal.returns-in_default-clause-one
returns-in_default-clause-one g c =
    let kept = c.not_run.ensures.kept in
    let p = c.args.ready.publisher in
    rw (c.not_run.ensures.outcome, kept.0, kept.1)
    (∣ nothing_run g.C.Core.rules (g.C.Settings.Reads.says c.args.settings.now) (g.C.Opens.given_with c.args.settings.now c.args.first.start (last_in p) c.args.first.counts) (output_in p) c.args.ready.pace.rate c.args.ready.pace.layout_every g.W.Source.Source.told g.W.Ticker.Ticker.gave c.args.ready.ticker
    (found_by (g.W.Mark.Mark.stored (mark_in p)) (standing_of p) (g.W.Sink.Sink.failures_of c.args.ready.sink)) c.args.ready.sources.items (g.W.Sink.Sink.nothing c.args.ready.sink) ∣₁)

pub returns-in_default-new-clause-lacked : goal.returns-in_default-new-clause-lacked
returns-in_default-new-clause-lacked g c = λ _. inl (either_refused c.args.first.limit 1 c.new.result c.in_default-new.not-Ok c.new.ensures.denied)

pub returns-in_default-new-clause-one : goal.returns-in_default-new-clause-one
returns-in_default-new-clause-one g c =
    let kept = c.not_run-in_default-new.ensures.kept in
    let p = c.args.ready.publisher in
    rw (c.not_run-in_default-new.ensures.outcome, kept.0, kept.1)
    (∣ nothing_run g.C.Core.rules (g.C.Settings.Reads.says c.args.settings.now) (g.C.Opens.given_with c.args.settings.now c.args.first.start (last_in p) c.args.first.counts) (output_in p) c.args.ready.pace.rate c.args.ready.pace.layout_every g.W.Source.Source.told g.W.Ticker.Ticker.gave c.args.ready.ticker
    (found_by (g.W.Mark.Mark.stored (mark_in p)) (standing_of p) (g.W.Sink.Sink.failures_of c.args.ready.sink)) c.args.ready.sources.items (g.W.Sink.Sink.nothing c.args.ready.sink) ∣₁)
