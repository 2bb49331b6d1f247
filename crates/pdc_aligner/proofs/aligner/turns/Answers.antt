use Rattle.std.proofs.Common.{rules, ◌+◌, ◌%◌, Bool, refl, subst}
use Rattle.pdc_pipe.specs.Writing.{put_by}
use Rattle.pdc_publisher.specs.Publisher.{mark_in, output_in}
use Rattle.pdc_log.specs.Log.{ticks_of}
use Rattle.pdc_aligner.specs.Laid.{IsAt}
use Rattle.pdc_aligner.proofs.Devices.{sound_of, sound_on, sound_same}
use Rattle.pdc_aligner.proofs.Laying.{are_done_of, at_before, begins_at, begins_laid, done_begins, laid_but}
use Rattle.pdc_aligner.proofs.Ticking.{ticking_begins, ticking_ends, ticking_failed, ticking_on}
use Rattle.pdc_aligner.proofs.aligner.turns.Goals as goal

pub loop-init : goal.loop-init
loop-init g c = (
  search rules,
  search rules,
  search rules,
  search rules,
  search rules,
  search rules,
  search rules,
  search rules,
  begins_laid g.C.Core.rules g.N.Naming.given (output_in c.args.aligner.now.publisher) c.args.pace.now.rate c.args.pace.now.layout_every c.args.aligner.now.pops.front (put_by c.args.aligner.now.writer) c.requires.begins c.requires.front.1,
  sound_same _ _ refl,
  search rules,
  begins_at g.C.Core.rules g.N.Naming.given c.args.pace.now.layout_every 0 c.args.aligner.now.pops.front (search rules) c.requires.front.1,
  search rules,
  ticking_begins g.K.Ticker.gave c.args.aligner.now.ticker (g.M.Mark.stored (mark_in c.args.aligner.now.publisher)).counts c.args.aligner.now.pops.front c.requires.front.0,
  done_begins g.C.Core.rules g.N.Naming.given c.args.aligner.now.pops.front c.requires.front.1,
)

pub turn-requires-clause-laid : goal.turn-requires-clause-laid
turn-requires-clause-laid g c = rw c.loop.invariant.4 c.loop.invariant.8

pub turn-requires-clause-before : goal.turn-requires-clause-before
turn-requires-clause-before g c = at_before g.C.Core.rules g.N.Naming.given c.args.pace.now.layout_every c.loop.place ((c.loop.place + 1) % c.args.pace.now.layout_every) c.loop.adopted c.loop.aligner.pops.front refl c.loop.invariant.11

pub returns-in_default-clause-but : goal.returns-in_default-clause-but
returns-in_default-clause-but g c = laid_but g.C.Core.rules g.N.Naming.given (output_in c.args.aligner.now.publisher) c.args.pace.now.rate c.args.pace.now.layout_every c.loop.aligner.pops.front (put_by c.loop.aligner.writer) c.loop.invariant.8

pub returns-in-Err-clause-but : goal.returns-in-Err-clause-but
returns-in-Err-clause-but g c = rw (← c.loop.invariant.4) c.turn.ensures.but

pub loop-preserved : goal.loop-preserved
loop-preserved g c = (
  search rules,
  search rules,
  search rules,
  search rules,
  search rules,
  search rules,
  search rules,
  search rules,
  rw (← c.loop.invariant.4) c.in-Ok.ensures.laid,
  sound_on _ _ _ c.loop.invariant.9 (sound_of _ _ _ c.in-Ok.ensures.device),
  search rules,
  subst (λ (b : Bool). IsAt g.C.Core.rules g.N.Naming.given c.args.pace.now.layout_every c.turn.new.aligner.pops.front b ((c.loop.place + 1) % c.args.pace.now.layout_every)) (search rules) c.in-Ok.ensures.at,
  search rules,
  ticking_on g.K.Ticker.gave c.args.aligner.now.ticker c.loop.aligner.ticker c.next-in-loop.new.self c.tell.new.ticker (g.M.Mark.stored (mark_in c.args.aligner.now.publisher)).counts (g.M.Mark.stored (mark_in c.loop.aligner.publisher)).counts
      (g.M.Mark.stored (mark_in c.turn.new.aligner.publisher)).counts (ticks_of c.loop.aligner.pops.front) (ticks_of c.turn.new.aligner.pops.front) c.in-Some-next.now c.in-Ok.adopts c.loop.invariant.13 c.in-Some-next.ensures.some
      (λ ns x. c.tell.ensures ns (c.turn.ensures.gave ns x)) c.turn.ensures.none_falls c.in-Ok.ensures.ticked,
  c.in-Ok.ensures.done,
)

pub returns-in_default-clause-ticked : goal.returns-in_default-clause-ticked
returns-in_default-clause-ticked g c =
    ticking_ends g.K.Ticker.gave c.args.aligner.now.ticker c.loop.aligner.ticker c.next-in-loop.new.self (g.M.Mark.stored (mark_in c.args.aligner.now.publisher)).counts (g.M.Mark.stored (mark_in c.loop.aligner.publisher)).counts (ticks_of c.loop.aligner.pops.front) _ c.loop.invariant.13 (search (rules, c.next-in-loop.ensures.none))

pub returns-in-Err-clause-ticked : goal.returns-in-Err-clause-ticked
returns-in-Err-clause-ticked g c =
    ticking_failed g.K.Ticker.gave c.args.aligner.now.ticker c.loop.aligner.ticker c.next-in-loop.new.self c.turn.new.aligner.ticker (g.M.Mark.stored (mark_in c.args.aligner.now.publisher)).counts (g.M.Mark.stored (mark_in c.loop.aligner.publisher)).counts
    (g.M.Mark.stored (mark_in c.turn.new.aligner.publisher)).counts (ticks_of c.loop.aligner.pops.front) (ticks_of c.turn.new.aligner.pops.front) c.in-Some-next.now c.in-Err.fault c.loop.invariant.13 c.in-Some-next.ensures.some c.turn.ensures.gave c.turn.ensures.none_falls c.in-Err.ensures.ticked

pub returns-in_default-clause-are_done : goal.returns-in_default-clause-are_done
returns-in_default-clause-are_done g c = are_done_of g.C.Core.rules g.N.Naming.given c.loop.aligner.pops.front c.loop.invariant.14
