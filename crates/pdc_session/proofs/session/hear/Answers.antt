use Rattle.std.proofs.Common.{◌≡◌, ◌+◌, arith, false, refl, true}
use Rattle.pdc_frame.specs.Frame.{fields_of}
use Rattle.pdc_session.proofs.Hearing.{answered_none, answered_one, answered_start, bad_in_bad, full_room, good_in_more, good_in_whole, lacks_one, none_in_bad, none_in_more, room_stays, some_left, within_piece}
use Rattle.pdc_session.specs.Session.{reply_of}
use Rattle.pdc_session.proofs.session.hear.Goals as goal

pub loop-at-init : goal.loop-at-init
loop-at-init g c = record {
  within = omega arith;
  good = c.requires.good;
  answered = answered_start _ _ _ _ _;
  in_place = λ _. refl;
}

pub loop-at-preserved-in-More : goal.loop-at-preserved-in-More
loop-at-preserved-in-More g c = record {
  within = within_piece _ _ _ c.loop-at.invariant.within c.feed-taken.ensures.taken;
  good = good_in_more _ _ c.feed-taken.ensures.step c.in-More.is;
  answered = answered_none c.args.id.value c.args.serving.now c.args.piece.now c.feed-taken.new.self.bytes c.loop-at.at c.feed-taken.result.0 c.feed-taken.result.1 c.args.framer.now c.loop-at.framer c.feed-taken.new.self c.args.told.now c.loop-at.told
      (g.B.Buffer.content c.args.out.now) (g.B.Buffer.content c.loop-at.out) c.loop-at.invariant.answered c.feed-taken.ensures.stream (record { within = c.feed-taken.ensures.taken; bytes = c.feed-taken.ensures.bytes; told = c.feed-taken.ensures.step }) (none_in_more _ _ c.in-More.is);
  in_place = c.loop-at.invariant.in_place;
}

pub loop-at-preserved : goal.loop-at-preserved
loop-at-preserved g c = record {
  within = within_piece _ _ _ c.loop-at.invariant.within c.feed-taken.ensures.taken;
  good = good_in_whole _ _ c.feed-taken.ensures.step c.in-Whole.is;
  answered = answered_one c.args.id.value c.args.serving.now c.args.piece.now c.loop-at.at c.feed-taken.result.0 c.feed-taken.result.1 (fields_of c.fields.result) c.command_to-command.result c.args.framer.now c.loop-at.framer c.feed-taken.new.self c.args.told.now c.loop-at.told c.obey.new.told
      (g.B.Buffer.content c.args.out.now) (g.B.Buffer.content c.loop-at.out) (g.B.Buffer.content c.obey.new.out) c.loop-at.invariant.answered c.feed-taken.ensures.stream (record { within = c.feed-taken.ensures.taken; bytes = c.feed-taken.ensures.bytes; told = c.feed-taken.ensures.step }) (c.feed-taken.ensures.some c.loop-at.invariant.good (some_left _ _ c.loop-at-test.true)) c.in-Whole.is c.fields.ensures c.command_to-command.ensures c.in-Ok.ensures.told c.in-Ok.ensures.ok;
  in_place = room_stays (g.B.Buffer.content c.loop-at.out) (g.B.Buffer.content c.obey.new.out) (reply_of c.args.id.value c.args.serving.now c.command_to-command.result) (g.B.Buffer.capacity c.args.out.now) (g.B.Buffer.capacity c.loop-at.out) (g.B.Buffer.capacity c.obey.new.out) c.in-Ok.ensures.ok c.loop-at.invariant.in_place c.in-Ok.ensures.in_place;
}

pub returns-in-Err-clause-memory : goal.returns-in-Err-clause-memory
returns-in-Err-clause-memory g c = λ _. (
  c.loop-at.at + c.feed-taken.result.0,
  within_piece _ _ _ c.loop-at.invariant.within c.feed-taken.ensures.taken,
  lacks_one c.args.id.value c.args.serving.now c.args.piece.now c.loop-at.at c.feed-taken.result.0 c.feed-taken.result.1 (fields_of c.fields.result) c.command_to-command.result c.args.framer.now c.loop-at.framer c.feed-taken.new.self c.args.told.now c.loop-at.told c.obey.new.told
      (g.B.Buffer.content c.args.out.now) (g.B.Buffer.content c.loop-at.out) (g.B.Buffer.content c.obey.new.out) (g.B.Buffer.capacity c.obey.new.out) (g.B.Buffer.refused c.obey.new.out) c.loop-at.invariant.answered c.feed-taken.ensures.stream (record { within = c.feed-taken.ensures.taken; bytes = c.feed-taken.ensures.bytes; told = c.feed-taken.ensures.step }) (c.feed-taken.ensures.some c.loop-at.invariant.good (some_left _ _ c.loop-at-test.true)) c.in-Whole.is c.fields.ensures c.command_to-command.ensures c.in-Err.ensures.told
      c.in-Err.ensures.err.0 (full_room (g.B.Buffer.content c.loop-at.out) (g.B.Buffer.content c.obey.new.out) (reply_of c.args.id.value c.args.serving.now c.command_to-command.result) _ _ c.in-Err.ensures.err.0 c.in-Err.ensures.err.1 (λ fits. let no : false ≡ true = c.in-Err.ensures.room fits in cc)) c.in-Err.ensures.refused,
)

pub returns-in-Bad-clause-bad : goal.returns-in-Bad-clause-bad
returns-in-Bad-clause-bad g c = λ _. (
  bad_in_bad _ _ c.in-Bad.field-0 c.feed-taken.ensures.step c.in-Bad.is,
  c.loop-at.at + c.feed-taken.result.0,
  within_piece _ _ _ c.loop-at.invariant.within c.feed-taken.ensures.taken,
  answered_none c.args.id.value c.args.serving.now c.args.piece.now c.feed-taken.new.self.bytes c.loop-at.at c.feed-taken.result.0 c.feed-taken.result.1 c.args.framer.now c.loop-at.framer c.feed-taken.new.self c.args.told.now c.loop-at.told
      (g.B.Buffer.content c.args.out.now) (g.B.Buffer.content c.loop-at.out) c.loop-at.invariant.answered c.feed-taken.ensures.stream (record { within = c.feed-taken.ensures.taken; bytes = c.feed-taken.ensures.bytes; told = c.feed-taken.ensures.step }) (none_in_bad _ c.in-Bad.field-0 _ c.in-Bad.is),
)
