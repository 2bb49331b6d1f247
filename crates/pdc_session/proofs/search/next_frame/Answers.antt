use Rattle.std.proofs.Common.{◌≡◌, ◌∷◌, [], ap, arith, refl, ◌∙◌}
use Rattle.pdc_frame.specs.declared.step.Step.{Step}
use Rattle.pdc_frame.specs.Stream.{given_at}
use Rattle.pdc_session.specs.Counting.{inner_of}
use Rattle.pdc_session.specs.Search.{Follows}
use Rattle.pdc_session.proofs.Following.{follows_fed, follows_more, follows_read, follows_start, none_left}
use Rattle.pdc_session.proofs.search.next_frame.Goals as goal

pub loop-reads-init : goal.loop-reads-init
loop-reads-init g c = record { follows = follows_start c.args.framer.now c.args.unread.now (g.R.Read.remaining (inner_of c.args.reader.now)); few = omega arith; counted = omega arith; whole = refl }

pub returns-in-Whole-clause-ok : goal.returns-in-Whole-clause-ok
returns-in-Whole-clause-ok g c =
    follows_more c.args.framer.now c.loop-reads.framer c.feed-taken.new.self c.args.unread.now c.loop-reads.unread c.skip.new.self (g.R.Read.remaining (inner_of c.args.reader.now)) (g.R.Read.remaining (inner_of c.loop-reads.reader)) (g.R.Read.remaining (inner_of c.loop-reads.reader))
    [] (c.feed-taken.new.self.bytes ∷ []) c.loop-reads.invariant.follows
    (follows_fed c.loop-reads.framer c.feed-taken.new.self c.loop-reads.unread c.skip.new.self c.bytes.result.now c.feed-taken.new.self.bytes c.feed-taken.result.0 c.feed-taken.result.1 (c.feed-taken.new.self.bytes ∷ []) (g.R.Read.remaining (inner_of c.loop-reads.reader))
    c.bytes.ensures c.skip.ensures c.feed-taken.ensures.stream (ap (λ (s : Step). given_at s c.feed-taken.new.self.bytes) c.in-Whole.is))

pub loop-reads-preserved : goal.loop-reads-preserved
loop-reads-preserved g c =
    let fed : Follows c.loop-reads.framer c.loop-reads.unread (g.R.Read.remaining (inner_of c.loop-reads.reader)) [] c.feed-taken.new.self c.skip.new.self (g.R.Read.remaining (inner_of c.loop-reads.reader)) =
    follows_fed c.loop-reads.framer c.feed-taken.new.self c.loop-reads.unread c.skip.new.self c.bytes.result.now c.feed-taken.new.self.bytes c.feed-taken.result.0 c.feed-taken.result.1 [] (g.R.Read.remaining (inner_of c.loop-reads.reader))
    c.bytes.ensures c.skip.ensures c.feed-taken.ensures.stream (ap (λ (s : Step). given_at s c.feed-taken.new.self.bytes) c.in-More.is) in
    let none : c.skip.new.self ≡ [] = c.skip.ensures ∙ none_left c.loop-reads.unread c.bytes.result.now c.feed-taken.result.0 c.bytes.ensures (c.feed-taken.ensures.more c.in-More.is) in
    record {
      follows = follows_more c.args.framer.now c.feed-taken.new.self c.feed-taken.new.self c.args.unread.now c.skip.new.self c.read_more.new.unread (g.R.Read.remaining (inner_of c.args.reader.now)) (g.R.Read.remaining (inner_of c.loop-reads.reader)) (g.R.Read.remaining (inner_of c.read_more.new.reader)) [] []
          (follows_more c.args.framer.now c.loop-reads.framer c.feed-taken.new.self c.args.unread.now c.loop-reads.unread c.skip.new.self (g.R.Read.remaining (inner_of c.args.reader.now)) (g.R.Read.remaining (inner_of c.loop-reads.reader)) (g.R.Read.remaining (inner_of c.loop-reads.reader)) [] [] c.loop-reads.invariant.follows fed)
          (follows_read c.feed-taken.new.self c.skip.new.self c.read_more.new.unread (g.R.Read.remaining (inner_of c.loop-reads.reader)) (g.R.Read.remaining (inner_of c.read_more.new.reader)) none c.in_ok-read_more.ensures.ok);
      few = omega arith;
      counted = omega (arith, c.loop-reads.invariant.counted, c.in_ok-read_more.ensures.reads, c.loop-reads.invariant.few);
      whole = search (c.in_ok-read_more.ensures.faults, c.loop-reads.invariant.whole, ◌∙◌);
    }
