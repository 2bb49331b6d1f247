use Rattle.std.proofs.Common.{rules, ◌≡◌, ◌∙◌, ◌||◌, ◌&&◌, ◌==◌, is_some}
use Rattle.pdc_align.specs.Align.{ticked_of}
use Rattle.pdc_life.specs.Answer.{tick_answer}
use Rattle.pdc_life.specs.Life.{changes}
use Rattle.pdc_pipe.specs.Writing.{put_by}
use Rattle.pdc_publisher.specs.Publisher.{mark_in, output_in}
use Rattle.pdc_aligner.specs.Laid.{IsAsked, IsAt, IsLaid, IsLaidUpToLayout, second_at}
use Rattle.pdc_aligner.proofs.Laying.{are_done_of, are_done_seen, at_seen, done_seen, done_ticked, laid_but, laid_seen, layout_laid, layout_lost, tick_asked, tick_at, tick_laid}
use Rattle.pdc_aligner.proofs.Ticking.{look_ticks, ticked_none, ticked_once}
use Rattle.pdc_aligner.proofs.aligner.turn.Goals as goal

pub returns-in-Err-clause-but : goal.returns-in-Err-clause-but
returns-in-Err-clause-but g c =
    let rate = c.args.pace.now.rate in
    let every = c.args.pace.now.layout_every in
    let output = output_in c.args.aligner.now.publisher in
    let old = c.args.aligner.now in
    let ticked = c.cleared.new.aligner in
    let counts = (g.M.Mark.stored (mark_in ticked.publisher)).counts in
    rw c.cleared.ensures.others.0 (laid_but g.C.Core.rules g.N.Naming.given output rate every ticked.pops.front (put_by old.writer)
    (laid_seen g.C.Core.rules g.N.Naming.given output rate every old.pops.front ticked.pops.front (put_by old.writer) c.in-Err.ensures.err c.requires.laid))

pub returns-in-Err-publish_due-clause-but : goal.returns-in-Err-publish_due-clause-but
returns-in-Err-publish_due-clause-but g c =
    let rate = c.args.pace.now.rate in
    let every = c.args.pace.now.layout_every in
    let output = output_in c.args.aligner.now.publisher in
    let old = c.args.aligner.now in
    let ticked = c.cleared.new.aligner in
    let counts = (g.M.Mark.stored (mark_in ticked.publisher)).counts in
    let laid : IsLaid g.C.Core.rules g.N.Naming.given (output_in ticked.publisher) rate every ticked.pops.front (put_by ticked.writer) =
    rw (c.cleared.ensures.kept.0.0, c.cleared.ensures.others.0) (tick_laid g.C.Core.rules g.N.Naming.given output rate every c.args.tick.now c.in-Ok.ticked.step counts (λ h E. c.in-Ok.ticked.answer ≡ ticked_of (changes E) (tick_answer h E c.args.tick.now counts)) old.pops.front ticked.pops.front (put_by old.writer) c.in-Ok.ensures.stored c.requires.laid) in
    rw (← c.cleared.ensures.kept.0.0) (c.publish_due.ensures.but c.args.pace.now laid)

pub returns-in-Ok-put_layout_where-clause-laid : goal.returns-in-Ok-put_layout_where-clause-laid
returns-in-Ok-put_layout_where-clause-laid g c =
    let rate = c.args.pace.now.rate in
    let every = c.args.pace.now.layout_every in
    let output = output_in c.args.aligner.now.publisher in
    let old = c.args.aligner.now in
    let ticked = c.cleared.new.aligner in
    let counts = (g.M.Mark.stored (mark_in ticked.publisher)).counts in
    let laid : IsLaid g.C.Core.rules g.N.Naming.given (output_in ticked.publisher) rate every ticked.pops.front (put_by ticked.writer) =
    rw (c.cleared.ensures.kept.0.0, c.cleared.ensures.others.0) (tick_laid g.C.Core.rules g.N.Naming.given output rate every c.args.tick.now c.in-Ok.ticked.step counts (λ h E. c.in-Ok.ticked.answer ≡ ticked_of (changes E) (tick_answer h E c.args.tick.now counts)) old.pops.front ticked.pops.front (put_by old.writer) c.in-Ok.ensures.stored c.requires.laid) in
    let due = c.publish_due.new.aligner in
    let up : IsLaidUpToLayout g.C.Core.rules g.N.Naming.given output rate every due.pops.front (put_by due.writer) = rw (← c.cleared.ensures.kept.0.0) (c.in-Ok-publish_due.ensures.laid c.args.pace.now laid) in
    let adopts = c.is_some-adopted.result in
    let wanted = c.if-adopted.asked in
    let is : adopts ≡ is_some c.in-Ok.ticked.answer.change = c.is_some-adopted.ensures in
    let wants : wanted ≡ adopts || (c.args.tick.adopted && (c.args.tick.place == 0)) = search rules in
    let dated : c.second_of-soc.result ≡ second_at rate c.args.tick.now = c.second_of-soc.ensures in
    let asked : IsAsked g.C.Core.rules g.N.Naming.given every due.pops.front c.args.tick.now wanted =
    c.publish_due.ensures.asked every c.args.tick.now wanted (tick_asked g.C.Core.rules g.N.Naming.given every c.args.tick.now c.in-Ok.ticked.step c.args.tick.place counts c.in-Ok.ticked.answer c.args.tick.adopted adopts wanted old.pops.front ticked.pops.front c.in-Ok.ensures.stored c.requires.before is wants) in
    layout_laid g.C.Core.rules g.N.Naming.given output rate every c.args.tick.now c.second_of-soc.result wanted due.pops.front c.put_layout_where.new.pops.front (put_by due.writer) (put_by c.put_layout_where.new.writer) c.put_layout_where.ensures.looked.2 asked dated c.in-Ok-put_layout_where.ensures.layout up

pub returns-in-Ok-put_layout_where-clause-but : goal.returns-in-Ok-put_layout_where-clause-but
returns-in-Ok-put_layout_where-clause-but g c =
    laid_but g.C.Core.rules g.N.Naming.given (output_in c.args.aligner.now.publisher) c.args.pace.now.rate c.args.pace.now.layout_every c.put_layout_where.new.pops.front (put_by c.put_layout_where.new.writer) (returns-in-Ok-put_layout_where-clause-laid g c)

pub returns-in-Ok-put_layout_where-clause-at : goal.returns-in-Ok-put_layout_where-clause-at
returns-in-Ok-put_layout_where-clause-at g c =
    let rate = c.args.pace.now.rate in
    let every = c.args.pace.now.layout_every in
    let output = output_in c.args.aligner.now.publisher in
    let old = c.args.aligner.now in
    let ticked = c.cleared.new.aligner in
    let counts = (g.M.Mark.stored (mark_in ticked.publisher)).counts in
    let due = c.publish_due.new.aligner in
    let adopts = c.is_some-adopted.result in
    let at : IsAt g.C.Core.rules g.N.Naming.given every due.pops.front (adopts || c.args.tick.adopted) c.args.tick.place =
    c.publish_due.ensures.at every c.args.tick.place (adopts || c.args.tick.adopted) (tick_at g.C.Core.rules g.N.Naming.given every c.args.tick.now c.in-Ok.ticked.step c.args.tick.place counts c.in-Ok.ticked.answer c.args.tick.adopted adopts old.pops.front ticked.pops.front c.in-Ok.ensures.stored c.requires.before c.is_some-adopted.ensures) in
    at_seen g.C.Core.rules g.N.Naming.given every c.args.tick.place (adopts || c.args.tick.adopted) due.pops.front c.put_layout_where.new.pops.front c.put_layout_where.ensures.looked.2 at

pub returns-in-Err-put_layout_where-clause-but : goal.returns-in-Err-put_layout_where-clause-but
returns-in-Err-put_layout_where-clause-but g c =
    let rate = c.args.pace.now.rate in
    let every = c.args.pace.now.layout_every in
    let output = output_in c.args.aligner.now.publisher in
    let old = c.args.aligner.now in
    let ticked = c.cleared.new.aligner in
    let counts = (g.M.Mark.stored (mark_in ticked.publisher)).counts in
    let laid : IsLaid g.C.Core.rules g.N.Naming.given (output_in ticked.publisher) rate every ticked.pops.front (put_by ticked.writer) =
    rw (c.cleared.ensures.kept.0.0, c.cleared.ensures.others.0) (tick_laid g.C.Core.rules g.N.Naming.given output rate every c.args.tick.now c.in-Ok.ticked.step counts (λ h E. c.in-Ok.ticked.answer ≡ ticked_of (changes E) (tick_answer h E c.args.tick.now counts)) old.pops.front ticked.pops.front (put_by old.writer) c.in-Ok.ensures.stored c.requires.laid) in
    let due = c.publish_due.new.aligner in
    let up : IsLaidUpToLayout g.C.Core.rules g.N.Naming.given output rate every due.pops.front (put_by due.writer) = rw (← c.cleared.ensures.kept.0.0) (c.in-Ok-publish_due.ensures.laid c.args.pace.now laid) in
    rw c.in-Err-put_layout_where.ensures.err (layout_lost g.C.Core.rules g.N.Naming.given output rate every due.pops.front c.put_layout_where.new.pops.front (put_by due.writer) c.put_layout_where.ensures.looked.2 up)

pub returns-in-Err-clause-ticked : goal.returns-in-Err-clause-ticked
returns-in-Err-clause-ticked g c = ticked_none c.args.tick.now (g.M.Mark.stored (mark_in c.cleared.new.aligner.publisher)).counts c.args.aligner.now.pops.front c.cleared.new.aligner.pops.front c.in-Err.fault c.in-Err.ensures.err

pub returns-in-Err-publish_due-clause-ticked : goal.returns-in-Err-publish_due-clause-ticked
returns-in-Err-publish_due-clause-ticked g c =
    ticked_once g.C.Core.rules g.N.Naming.given c.args.tick.now (g.M.Mark.stored (mark_in c.cleared.new.aligner.publisher)).counts (g.M.Mark.stored (mark_in c.publish_due.new.aligner.publisher)).counts c.args.aligner.now.pops.front c.cleared.new.aligner.pops.front c.publish_due.new.aligner.pops.front c.in-Ok.ticked.step (λ h E. c.in-Ok.ticked.answer ≡ ticked_of (changes E) (tick_answer h E c.args.tick.now (g.M.Mark.stored (mark_in c.cleared.new.aligner.publisher)).counts)) _ c.in-Ok.ensures.stored c.publish_due.ensures.ticks c.publish_due.ensures.counts

pub returns-in-Ok-put_layout_where-clause-ticked : goal.returns-in-Ok-put_layout_where-clause-ticked
returns-in-Ok-put_layout_where-clause-ticked g c =
    ticked_once g.C.Core.rules g.N.Naming.given c.args.tick.now (g.M.Mark.stored (mark_in c.cleared.new.aligner.publisher)).counts (g.M.Mark.stored (mark_in c.publish_due.new.aligner.publisher)).counts c.args.aligner.now.pops.front c.cleared.new.aligner.pops.front c.put_layout_where.new.pops.front c.in-Ok.ticked.step (λ h E. c.in-Ok.ticked.answer ≡ ticked_of (changes E) (tick_answer h E c.args.tick.now (g.M.Mark.stored (mark_in c.cleared.new.aligner.publisher)).counts)) _ c.in-Ok.ensures.stored (look_ticks c.publish_due.new.aligner.pops.front c.put_layout_where.new.pops.front c.put_layout_where.ensures.looked.2 ∙ c.publish_due.ensures.ticks) c.publish_due.ensures.counts

pub returns-in-Err-put_layout_where-clause-ticked : goal.returns-in-Err-put_layout_where-clause-ticked
returns-in-Err-put_layout_where-clause-ticked g c =
    ticked_once g.C.Core.rules g.N.Naming.given c.args.tick.now (g.M.Mark.stored (mark_in c.cleared.new.aligner.publisher)).counts (g.M.Mark.stored (mark_in c.publish_due.new.aligner.publisher)).counts c.args.aligner.now.pops.front c.cleared.new.aligner.pops.front c.put_layout_where.new.pops.front c.in-Ok.ticked.step (λ h E. c.in-Ok.ticked.answer ≡ ticked_of (changes E) (tick_answer h E c.args.tick.now (g.M.Mark.stored (mark_in c.cleared.new.aligner.publisher)).counts)) _ c.in-Ok.ensures.stored (look_ticks c.publish_due.new.aligner.pops.front c.put_layout_where.new.pops.front c.put_layout_where.ensures.looked.2 ∙ c.publish_due.ensures.ticks) c.publish_due.ensures.counts

pub returns-in-Err-clause-are_done : goal.returns-in-Err-clause-are_done
returns-in-Err-clause-are_done g c =
    are_done_seen g.C.Core.rules g.N.Naming.given c.args.aligner.now.pops.front c.cleared.new.aligner.pops.front c.in-Err.ensures.err (are_done_of g.C.Core.rules g.N.Naming.given c.args.aligner.now.pops.front c.requires.done)

pub returns-in-Err-publish_due-clause-are_done : goal.returns-in-Err-publish_due-clause-are_done
returns-in-Err-publish_due-clause-are_done g c = c.publish_due.ensures.are_done (done_ticked g.C.Core.rules g.N.Naming.given c.args.tick.now c.in-Ok.ticked.step (g.M.Mark.stored (mark_in c.cleared.new.aligner.publisher)).counts (λ h E. c.in-Ok.ticked.answer ≡ ticked_of (changes E) (tick_answer h E c.args.tick.now (g.M.Mark.stored (mark_in c.cleared.new.aligner.publisher)).counts)) c.args.aligner.now.pops.front c.cleared.new.aligner.pops.front c.in-Ok.ensures.stored c.requires.done)

pub returns-in-Ok-put_layout_where-clause-done : goal.returns-in-Ok-put_layout_where-clause-done
returns-in-Ok-put_layout_where-clause-done g c =
    done_seen g.C.Core.rules g.N.Naming.given c.publish_due.new.aligner.pops.front c.put_layout_where.new.pops.front c.put_layout_where.ensures.looked.2 (c.in-Ok-publish_due.ensures.done (done_ticked g.C.Core.rules g.N.Naming.given c.args.tick.now c.in-Ok.ticked.step (g.M.Mark.stored (mark_in c.cleared.new.aligner.publisher)).counts (λ h E. c.in-Ok.ticked.answer ≡ ticked_of (changes E) (tick_answer h E c.args.tick.now (g.M.Mark.stored (mark_in c.cleared.new.aligner.publisher)).counts)) c.args.aligner.now.pops.front c.cleared.new.aligner.pops.front c.in-Ok.ensures.stored c.requires.done))

pub returns-in-Ok-put_layout_where-clause-are_done : goal.returns-in-Ok-put_layout_where-clause-are_done
returns-in-Ok-put_layout_where-clause-are_done g c =
    are_done_seen g.C.Core.rules g.N.Naming.given c.publish_due.new.aligner.pops.front c.put_layout_where.new.pops.front c.put_layout_where.ensures.looked.2 (c.publish_due.ensures.are_done (done_ticked g.C.Core.rules g.N.Naming.given c.args.tick.now c.in-Ok.ticked.step (g.M.Mark.stored (mark_in c.cleared.new.aligner.publisher)).counts (λ h E. c.in-Ok.ticked.answer ≡ ticked_of (changes E) (tick_answer h E c.args.tick.now (g.M.Mark.stored (mark_in c.cleared.new.aligner.publisher)).counts)) c.args.aligner.now.pops.front c.cleared.new.aligner.pops.front c.in-Ok.ensures.stored c.requires.done))

pub returns-in-Err-put_layout_where-clause-are_done : goal.returns-in-Err-put_layout_where-clause-are_done
returns-in-Err-put_layout_where-clause-are_done g c =
    are_done_seen g.C.Core.rules g.N.Naming.given c.publish_due.new.aligner.pops.front c.put_layout_where.new.pops.front c.put_layout_where.ensures.looked.2 (c.publish_due.ensures.are_done (done_ticked g.C.Core.rules g.N.Naming.given c.args.tick.now c.in-Ok.ticked.step (g.M.Mark.stored (mark_in c.cleared.new.aligner.publisher)).counts (λ h E. c.in-Ok.ticked.answer ≡ ticked_of (changes E) (tick_answer h E c.args.tick.now (g.M.Mark.stored (mark_in c.cleared.new.aligner.publisher)).counts)) c.args.aligner.now.pops.front c.cleared.new.aligner.pops.front c.in-Ok.ensures.stored c.requires.done))
