use Rattle.std.proofs.Common.{arith, refl, ◌∙◌}
use Rattle.pdc_session.specs.Counting.{inner_of}
use Rattle.pdc_session.proofs.Following.{finds_one, passes_one, passes_start, searches_found}
use Rattle.pdc_session.proofs.search.find_frame.Goals as goal

pub loop-init : goal.loop-init
loop-init g c = record { passes = passes_start c.args.id.value c.args.kind c.args.framer.now c.args.unread.now (g.R.Read.remaining (inner_of c.args.reader.now)); few = omega arith; counted = omega arith; whole = refl }

pub returns-then-is_wanted-clause-searches : goal.returns-then-is_wanted-clause-searches
returns-then-is_wanted-clause-searches g c =
    searches_found c.args.id.value c.args.kind c.args.framer.now c.args.unread.now (g.R.Read.remaining (inner_of c.args.reader.now)) c.next_frame.new.framer c.next_frame.new.unread (g.R.Read.remaining (inner_of c.next_frame.new.reader)) c.next_frame.new.reads _
    (finds_one c.args.id.value c.args.kind c.loop.counter c.args.framer.now c.loop.framer c.next_frame.new.framer c.args.unread.now c.loop.unread c.next_frame.new.unread (g.R.Read.remaining (inner_of c.args.reader.now)) (g.R.Read.remaining (inner_of c.loop.reader)) (g.R.Read.remaining (inner_of c.next_frame.new.reader))
    c.loop.invariant.passes c.in_ok-next_frame.ensures.ok c.loop-test.true (c.is_wanted.ensures.wanted c.if-is_wanted.true) c.in_ok-next_frame.ensures.whole)

pub loop-preserved : goal.loop-preserved
loop-preserved g c = record {
  passes = passes_one c.args.id.value c.args.kind c.loop.counter c.args.framer.now c.loop.framer c.next_frame.new.framer c.args.unread.now c.loop.unread c.next_frame.new.unread (g.R.Read.remaining (inner_of c.args.reader.now)) (g.R.Read.remaining (inner_of c.loop.reader)) (g.R.Read.remaining (inner_of c.next_frame.new.reader))
      c.loop.invariant.passes c.in_ok-next_frame.ensures.ok (c.is_wanted.ensures.other c.if-is_wanted.false);
  few = omega (arith, c.loop.invariant.few, c.in_ok-next_frame.ensures.few);
  counted = omega (arith, c.loop.invariant.few, c.in_ok-next_frame.ensures.few, c.loop.invariant.counted, c.in_ok-next_frame.ensures.reads);
  whole = search (c.in_ok-next_frame.ensures.faults, c.loop.invariant.whole, ◌∙◌);
}
