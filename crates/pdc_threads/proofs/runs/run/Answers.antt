use Rattle.std.proofs.Common.{rules, false, [], inl, refl}
use Rattle.pdc_aligner.specs.Device.{standing_of}
use Rattle.pdc_hub.specs.Pops.{popped_by}
use Rattle.pdc_publisher.specs.Publisher.{last_in, lead_in, mark_in, output_in}
use Rattle.pdc_pipe.specs.declared.senders.Ended.TheVariants.{AlignerGone}
use Rattle.pdc_hub.specs.pdc_memory.Asking.{SomeWasRefused}
use Rattle.pdc_threads.specs.Wanted.{LackedRoom}
use Rattle.pdc_threads.proofs.Outcomes.{err_of, none_conducted, none_of, nothing_sent}
use Rattle.pdc_threads.proofs.runs.run.Goals as goal

pub returns-in_default-clause-sent : goal.returns-in_default-clause-sent
returns-in_default-clause-sent g c =
    let p = c.args.crew.publisher in
    let sink = c.args.crew.sink in
    let h = none_conducted g.C.Core.rules (g.C.Settings.Reads.says c.args.settings.now) g.N.Naming.given g.W.Source.Source.told c.args.crew.sources.items c.args.crew.pace g.W.Ticker.Ticker.gave c.args.crew.ticker
    (output_in p) (lead_in p) (last_in p) (popped_by c.args.crew.pops) (g.W.Mark.Mark.stored (mark_in p)) (standing_of p) (g.W.Sink.Sink.failures_of sink) (g.W.Sink.Sink.failures_of sink) [] false AlignerGone
    refl (nothing_sent (g.W.Sink.Sink.nothing sink)) (search rules) c.requires.floor (inl (none_of SomeWasRefused c.buffered.result c.in_default.not-Some c.buffered.ensures.refused)) in
    rw (c.not_begun.ensures.0, c.not_begun.ensures.1, c.not_begun.ensures.2) h.run

pub returns-in_default-clause-one : goal.returns-in_default-clause-one
returns-in_default-clause-one g c =
    let p = c.args.crew.publisher in
    let sink = c.args.crew.sink in
    let h = none_conducted g.C.Core.rules (g.C.Settings.Reads.says c.args.settings.now) g.N.Naming.given g.W.Source.Source.told c.args.crew.sources.items c.args.crew.pace g.W.Ticker.Ticker.gave c.args.crew.ticker
    (output_in p) (lead_in p) (last_in p) (popped_by c.args.crew.pops) (g.W.Mark.Mark.stored (mark_in p)) (standing_of p) (g.W.Sink.Sink.failures_of sink) (g.W.Sink.Sink.failures_of sink) [] false AlignerGone
    refl (nothing_sent (g.W.Sink.Sink.nothing sink)) (search rules) c.requires.floor (inl (none_of SomeWasRefused c.buffered.result c.in_default.not-Some c.buffered.ensures.refused)) in
    rw (c.not_begun.ensures.0, c.not_begun.ensures.1, c.not_begun.ensures.2) h.one

pub returns-in_default-ring-clause-sent : goal.returns-in_default-ring-clause-sent
returns-in_default-ring-clause-sent g c =
    let p = c.args.crew.publisher in
    let sink = c.args.crew.sink in
    let h = none_conducted g.C.Core.rules (g.C.Settings.Reads.says c.args.settings.now) g.N.Naming.given g.W.Source.Source.told c.args.crew.sources.items c.args.crew.pace g.W.Ticker.Ticker.gave c.args.crew.ticker
    (output_in p) (lead_in p) (last_in p) (popped_by c.args.crew.pops) (g.W.Mark.Mark.stored (mark_in p)) (standing_of p) (g.W.Sink.Sink.failures_of sink) (g.W.Sink.Sink.failures_of sink) [] false AlignerGone
    refl (nothing_sent (g.W.Sink.Sink.nothing sink)) (search rules) c.requires.floor (err_of LackedRoom c.ring.result c.in_default-ring.not-Ok c.ring.ensures.lacked) in
    rw (c.not_begun-in_default-ring.ensures.0, c.not_begun-in_default-ring.ensures.1, c.not_begun-in_default-ring.ensures.2) h.run

pub returns-in_default-ring-clause-one : goal.returns-in_default-ring-clause-one
returns-in_default-ring-clause-one g c =
    let p = c.args.crew.publisher in
    let sink = c.args.crew.sink in
    let h = none_conducted g.C.Core.rules (g.C.Settings.Reads.says c.args.settings.now) g.N.Naming.given g.W.Source.Source.told c.args.crew.sources.items c.args.crew.pace g.W.Ticker.Ticker.gave c.args.crew.ticker
    (output_in p) (lead_in p) (last_in p) (popped_by c.args.crew.pops) (g.W.Mark.Mark.stored (mark_in p)) (standing_of p) (g.W.Sink.Sink.failures_of sink) (g.W.Sink.Sink.failures_of sink) [] false AlignerGone
    refl (nothing_sent (g.W.Sink.Sink.nothing sink)) (search rules) c.requires.floor (err_of LackedRoom c.ring.result c.in_default-ring.not-Ok c.ring.ensures.lacked) in
    rw (c.not_begun-in_default-ring.ensures.0, c.not_begun-in_default-ring.ensures.1, c.not_begun-in_default-ring.ensures.2) h.one
