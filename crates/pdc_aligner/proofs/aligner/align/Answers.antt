use Rattle.std.proofs.Common.{rules, ◌≡◌, ◌++◌, ◌∷◌, [], ap}
use Rattle.pdc_hub.specs.Pops.{popped_by}
use Rattle.pdc_pipe.specs.Writing.{put_by}
use Rattle.pdc_pipe.specs.declared.message.Message.TheVariants.{End}
use Rattle.pdc_hub.specs.declared.fault.HubFault.TheVariants.{Stuck}
use Rattle.pdc_publisher.specs.Publisher.{mark_in, output_in}
use Rattle.pdc_log.specs.Log.{ticks_of}
use Rattle.pdc_aligner.specs.Turns.{HasGiven}
use Rattle.pdc_aligner.specs.Laid.{IsLaid}
use Rattle.pdc_aligner.proofs.Laying.{but_end, laid_end, ok_map, same_bytes}
use Rattle.pdc_aligner.specs.Sequence.{instants_of}
use Rattle.pdc_aligner.proofs.Sequences.{put_end, put_failed, put_same, rises_on}
use Rattle.pdc_aligner.proofs.Ticking.{ticked_stuck}
use Rattle.pdc_aligner.proofs.aligner.align.Goals as goal

pub returns-then-not-close-clause-rising : goal.returns-then-not-close-clause-rising
returns-then-not-close-clause-rising g c =
    let same : put_by c.close.new.writer ≡ put_by c.turns-done.new.aligner.writer = search rules in
    rw same (rises_on _ _ _ _ c.turns-done.ensures.rising c.turns-done.new.aligner.publisher.covered)

pub returns-clause-rising : goal.returns-clause-rising
returns-clause-rising g c =
    let more : put_by c.close.new.writer ≡ put_by c.turns-done.new.aligner.writer ++ End ∷ [] = search rules in
    rw (put_end _ _ more) (rises_on _ _ _ _ c.turns-done.ensures.rising c.turns-done.new.aligner.publisher.covered)

pub returns-clause-published : goal.returns-clause-published
returns-clause-published g c =
    let more : put_by c.close.new.writer ≡ put_by c.turns-done.new.aligner.writer ++ End ∷ [] = search rules in
    rw (put_end _ _ more) c.turns-done.ensures.counted

pub returns-then-not-close-clause-all : goal.returns-then-not-close-clause-all
returns-then-not-close-clause-all g c =
    let same : put_by c.close.new.writer ≡ put_by c.turns-done.new.aligner.writer = search rules in
    let kept : popped_by c.close-closed.new.pops ≡ popped_by c.turns-done.new.aligner.pops = ap popped_by c.close-closed.ensures.kept in
    rw kept (put_failed _ _ _ _ _ _ Stuck c.turns-done.ensures.all (ap instants_of same))

pub returns-clause-all : goal.returns-clause-all
returns-clause-all g c =
    let more : put_by c.close.new.writer ≡ put_by c.turns-done.new.aligner.writer ++ End ∷ [] = search rules in
    let kept : popped_by c.close-closed.new.pops ≡ popped_by c.turns-done.new.aligner.pops = ap popped_by c.close-closed.ensures.kept in
    rw kept (put_same _ _ _ _ _ _ c.turns-done.ensures.all (put_end _ _ more))

pub returns-then-not-close-clause-but : goal.returns-then-not-close-clause-but
returns-then-not-close-clause-but g c =
    let same : put_by c.close.new.writer ≡ put_by c.turns-done.new.aligner.writer = search rules in
    rw (ap (λ p. p.front) c.close-closed.ensures.kept, same) c.turns-done.ensures.but

pub returns-clause-laid : goal.returns-clause-laid
returns-clause-laid g c =
    let more : put_by c.close.new.writer ≡ put_by c.turns-done.new.aligner.writer ++ End ∷ [] = search rules in
    let seen = c.turns-done.new.aligner.pops.front in
    rw (ap (λ p. p.front) c.close-closed.ensures.kept) (ok_map c.turns-done.result
    (IsLaid g.C.Core.rules g.N.Naming.given (output_in c.args.aligner.now.publisher) c.args.pace.now.rate c.args.pace.now.layout_every seen (put_by c.turns-done.new.aligner.writer))
    (IsLaid g.C.Core.rules g.N.Naming.given (output_in c.args.aligner.now.publisher) c.args.pace.now.rate c.args.pace.now.layout_every seen (put_by c.close.new.writer))
    (laid_end g.C.Core.rules g.N.Naming.given (output_in c.args.aligner.now.publisher) c.args.pace.now.rate c.args.pace.now.layout_every seen (put_by c.turns-done.new.aligner.writer) (put_by c.close.new.writer) more) c.turns-done.ensures.laid)

pub returns-clause-but : goal.returns-clause-but
returns-clause-but g c =
    let more : put_by c.close.new.writer ≡ put_by c.turns-done.new.aligner.writer ++ End ∷ [] = search rules in
    rw (ap (λ p. p.front) c.close-closed.ensures.kept) (but_end g.C.Core.rules g.N.Naming.given (output_in c.args.aligner.now.publisher) c.args.pace.now.rate c.args.pace.now.layout_every c.turns-done.new.aligner.pops.front (put_by c.turns-done.new.aligner.writer) (put_by c.close.new.writer)
    (same_bytes (put_by c.turns-done.new.aligner.writer) (put_by c.close.new.writer) more) c.turns-done.ensures.but)

pub returns-then-not-close-clause-ticked : goal.returns-then-not-close-clause-ticked
returns-then-not-close-clause-ticked g c =
    let done = c.turns-done.new.aligner in
    rw (ap (λ p. p.front) c.close-closed.ensures.kept)
    (ticked_stuck (HasGiven g.K.Ticker.gave c.args.aligner.now.ticker done.ticker) (g.M.Mark.stored (mark_in c.args.aligner.now.publisher)).counts (g.M.Mark.stored (mark_in done.publisher)).counts (ticks_of done.pops.front) c.turns-done.result Stuck c.turns-done.ensures.ticked)

pub returns-clause-ticked : goal.returns-clause-ticked
returns-clause-ticked g c = rw (ap (λ p. p.front) c.close-closed.ensures.kept) c.turns-done.ensures.ticked

pub returns-then-not-close-clause-are_done : goal.returns-then-not-close-clause-are_done
returns-then-not-close-clause-are_done g c = rw (ap (λ p. p.front) c.close-closed.ensures.kept) c.turns-done.ensures.are_done

pub returns-clause-are_done : goal.returns-clause-are_done
returns-clause-are_done g c = rw (ap (λ p. p.front) c.close-closed.ensures.kept) c.turns-done.ensures.are_done

pub returns-clause-done : goal.returns-clause-done
returns-clause-done g c = rw (ap (λ p. p.front) c.close-closed.ensures.kept) c.turns-done.ensures.done
