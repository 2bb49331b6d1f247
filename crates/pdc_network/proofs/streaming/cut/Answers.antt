use Rattle.std.proofs.Common.{[], ◌∙◌, ap, drop, length}
use Rattle.pdc_frame.specs.Stream.{given_at}
use Rattle.pdc_frame.specs.declared.step.Step.{Step}
use Rattle.pdc_network.proofs.Running.{copied_front, takes_front}
use Rattle.pdc_network.proofs.streaming.cut.Goals as goal

pub returns-in-More-clause-takes : goal.returns-in-More-clause-takes
returns-in-More-clause-takes c =
    takes_front c.args.framer.now c.feed-taken.new.self c.args.unread.now c.skip.new.self c.bytes.result.now c.feed-taken.new.self.bytes c.feed-taken.result.0 c.feed-taken.result.1 []
    c.bytes.ensures c.skip.ensures c.feed-taken.ensures.stream (ap (λ (s : Step). given_at s c.feed-taken.new.self.bytes) c.in-More.is)

pub returns-in-Bad-clause-takes : goal.returns-in-Bad-clause-takes
returns-in-Bad-clause-takes c =
    takes_front c.args.framer.now c.feed-taken.new.self c.args.unread.now c.skip.new.self c.bytes.result.now c.feed-taken.new.self.bytes c.feed-taken.result.0 c.feed-taken.result.1 []
    c.bytes.ensures c.skip.ensures c.feed-taken.ensures.stream (ap (λ (s : Step). given_at s c.feed-taken.new.self.bytes) c.in-Bad.is)

pub returns-in-Whole-clause-takes : goal.returns-in-Whole-clause-takes
returns-in-Whole-clause-takes c =
    takes_front c.args.framer.now c.feed-taken.new.self c.args.unread.now c.skip.new.self c.bytes.result.now c.feed-taken.new.self.bytes c.feed-taken.result.0 c.feed-taken.result.1 _
    c.bytes.ensures c.skip.ensures c.feed-taken.ensures.stream
    (ap (λ (s : Step). given_at s c.feed-taken.new.self.bytes) c.in-Whole.is ∙ copied_front c.feed-taken.new.self.bytes c.frame-frame.result.now c.copy_from_slice.new.self
    (drop (length c.frame-frame.result.now) c.args.buffer.now) c.frame-frame.ensures.bytes c.copy_from_slice.ensures.after)
