use Rattle.std.proofs.Common.{inr, rules, ◌≡◌, [], length, map, subst, true, ◌∙◌, vec_len}
use lib.ListN.{length-map}
use Rattle.pdc_pipe.specs.Writing.{put_by}
use Rattle.pdc_aligner.specs.Device.{standing_of}
use Rattle.pdc_aligner.specs.Sequence.{instants_of}
use Rattle.pdc_hub.specs.Pops.{popped_by}
use Rattle.pdc_hub.specs.Received.{AreBrought}
use Rattle.pdc_pipe.specs.HandedOn.{HasHandedOn, HasSinkCause}
use Rattle.pdc_publisher.specs.Publisher.{last_in, lead_in, mark_in, output_in}
use Rattle.pdc_threads.specs.Ended.{HasEndedOf}
use Rattle.pdc_threads.specs.OneRun.{found_by}
use Rattle.pdc_threads.specs.Run.{HasEach}
use Rattle.pdc_threads.proofs.Endings.{for_all, joined_all}
use Rattle.pdc_threads.proofs.Meetings.{came_of, one_run}
use Rattle.pdc_threads.proofs.Outcomes.{all_complete, all_each, all_entries, all_handed_on, all_popped, all_published, ended_or_not, none_conducted, told_of}
use Rattle.pdc_threads.proofs.runs.conduct.Goals as goal

pub align_or_close-aligned-requires : goal.align_or_close-aligned-requires
align_or_close-aligned-requires g c =
    let ready = c.requires.ready in record {
      top = ready.top;
      last = ready.last;
      floor = ready.floor;
      turns = ready.turns;
      given = ready.given;
      begun = ready.begun;
      rate = ready.rate;
      opened = ready.opened;
      begins = ready.begins;
    }

pub returns-clause-conducted : goal.returns-clause-conducted
returns-clause-conducted g c =
    let aligner = c.align_or_close-aligned.new.aligner in
    let aligned = c.align_or_close-aligned.ensures in
    let put = put_by aligner.writer in
    let old = c.args.manned.aligner in
    let sources = map (λ i. i.source) c.args.manned.inputs.items in
    let t = c.settle-sink-2.ensures.handed c.args.manned.sink (search (rules, c.join-sent.ensures.2)) in
    let cause : HasSinkCause c.settle-sink-2.result.1 (g.W.Sink.Sink.failures_of c.args.manned.sink) (g.W.Sink.Sink.failures_of c.settle-sink-2.result.0) = search (rules, c.join-sent.ensures.3, c.settle-sink-2.ensures.back) in
    let outcome = c.outcome-outcome.result in
    let joined = c.join_all-joined.ensures in
    let complete = c.join_all-joined.result.complete in
    let front = c.join_all-joined.new.shares.front in
    let counted = c.count_all-counted.ensures in
    let few : vec_len c.args.manned.inputs ≡ length sources = search (rules, length-map c.args.manned.inputs.items (λ i. i.source)) in
    let all : complete ≡ true → length joined.ended.endings ≡ length sources =
    λ h. joined_all _ _ _ _ _ _ joined.ended ∙ (search (rules, (c.start_all-started.ensures.complete (joined.started h)).2) ∙ few) in
    let popped : popped_by c.count_all-counted.new.pops ≡ popped_by aligner.pops = counted.same.counted in
    let receivers = c.outcome-outcome.ensures.receivers in
    let entries = all_entries outcome c.join_all-joined.result.receivers.items (vec_len c.join_all-joined.result.receivers) joined.ended.endings complete receivers c.outcome-outcome.ensures.entries joined.ended.entries in record {
      totals = c.outcome-outcome.ensures.totals;
      lacked = c.outcome-outcome.ensures.lacked;
      each = subst (λ n. HasEach outcome n) few (all_each outcome (vec_len c.join_all-joined.result.receivers) (vec_len c.args.manned.inputs) complete receivers
          (λ h. joined.each h ∙ (c.start_all-started.ensures.complete (joined.started h)).2));
      kept = aligned.kept;
      sink = λ e. cause (c.outcome-outcome.ensures.sink e);
      popped = rw popped (all_popped outcome c.align_or_close-aligned.result (popped_by old.pops) (popped_by aligner.pops) put c.outcome-outcome.ensures.published aligned.published aligned.all);
      mark = λ e. aligned.device.caused (c.outcome-outcome.ensures.mark e);
      run = record {
        put = put;
        given = t.given;
        rest = t.rest;
        took = t.took;
        first = t.first;
        rising = aligned.rising;
        whole = all_handed_on outcome put c.settle-sink-2.result.1 t c.outcome-outcome.ensures.ended;
        published = all_published outcome c.align_or_close-aligned.result (length (instants_of put)) c.outcome-outcome.ensures.published aligned.published;
      };
      one = one_run g.C.Settings.Reads.says g.C.Settings.Reads.fits g.N.Naming.settings c.args.intake.now.settings.now g.C.Core.rules g.N.Naming.given (output_in old.publisher) c.args.manned.pace.rate c.args.manned.pace.layout_every g.W.Source.Source.told sources
          (found_by (g.W.Mark.Mark.stored (mark_in old.publisher)) (standing_of old.publisher) (g.W.Sink.Sink.failures_of c.args.manned.sink)) (found_by (g.W.Mark.Mark.stored (mark_in aligner.publisher)) (standing_of aligner.publisher) (g.W.Sink.Sink.failures_of c.settle-sink-2.result.0)) outcome
          aligner.pops.front front c.count_all-counted.new.pops.front complete joined.ended.endings put c.align_or_close-aligned.result c.settle-sink-2.result.1
          c.requires.ready.settings counted.looked counted.later counted.said
          (λ h. came_of joined.ended.endings c.join_all-joined.result.receivers.items _ _ _ _ (joined.ended.entries h) (joined.sums h).0 (joined.sums h).1 (joined.ended.all_configured h) (counted.came h))
          (for_all _ _ (HasEndedOf g.W.Source.Source.told (λ s. AreBrought g.C.Core.rules g.N.Naming.given s front)) 0 0 sources c.start_all-started.result.running.items joined.ended.endings
          (λ source stream handle place ending placed kept.
          subst (λ s. HasEndedOf g.W.Source.Source.told (λ s. AreBrought g.C.Core.rules g.N.Naming.given s front) s stream ending) placed.0
          (subst (λ n. HasEndedOf g.W.Source.Source.told (λ s. AreBrought g.C.Core.rules g.N.Naming.given s front) handle.promise.source.value n ending) placed.1 kept.0))
          c.start_all-started.ensures.placed joined.ended.are_kept)
          all aligned.laid aligned.but aligned.ticked aligned.done aligned.are_done aligned.device t cause c.outcome-outcome.ensures.published aligned.published c.outcome-outcome.ensures.ended (all_complete outcome (vec_len c.join_all-joined.result.receivers) complete receivers) entries
          (told_of outcome joined.ended.endings c.join_all-joined.result.fault complete c.align_or_close-aligned.result c.settle-sink-2.result.1 joined.ended.first c.outcome-outcome.ensures.told);
    }

pub returns-in-Err-clause-conducted : goal.returns-in-Err-clause-conducted
returns-in-Err-clause-conducted g c =
    let put = put_by c.close-closed.new.writer in
    let same : c.in-Err.refused.value.4 ≡ c.args.manned.sink = search (rules, c.in-Err.ensures.err) in
    let sent = c.settle-sink.ensures.handed c.in-Err.refused.value.4 c.spawn_with-sent.ensures.2 in
    let t = subst (λ k. HasHandedOn (g.W.Sink.Sink.took k c.settle-sink.result.0) put c.settle-sink.result.1) same sent in
    let cause : HasSinkCause c.settle-sink.result.1 (g.W.Sink.Sink.failures_of c.args.manned.sink) (g.W.Sink.Sink.failures_of c.settle-sink.result.0) = search (rules, c.spawn_with-sent.ensures.3, c.settle-sink.ensures.back) in
    let nothing : put_by c.args.manned.aligner.writer ≡ [] = c.requires.ready.begins.1 in
    let p = c.args.manned.aligner.publisher in
    rw (c.not_begun.ensures.0, c.not_begun.ensures.1, c.not_begun.ensures.2, c.not_begun.ensures.3, c.close.ensures.kept)
    (none_conducted g.C.Core.rules (g.C.Settings.Reads.says c.args.intake.now.settings.now) g.N.Naming.given g.W.Source.Source.told (map (λ i. i.source) c.args.manned.inputs.items) c.args.manned.pace g.W.Ticker.Ticker.gave c.args.manned.aligner.ticker
    (output_in p) (lead_in p) (last_in p) (popped_by c.args.manned.aligner.pops) (g.W.Mark.Mark.stored (mark_in p)) (standing_of p) (g.W.Sink.Sink.failures_of c.args.manned.sink) (g.W.Sink.Sink.failures_of c.settle-sink.result.0) put c.close-closed.result c.settle-sink.result.1
    (ended_or_not (put_by c.args.manned.aligner.writer) put c.close-closed.result nothing c.close-closed.ensures.put c.close-closed.ensures.not) t cause c.requires.ready.floor (inr c.note_denied.ensures))
