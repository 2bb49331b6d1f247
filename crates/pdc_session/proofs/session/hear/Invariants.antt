use Rattle.std.proofs.Common.{◌≡◌, ◌≤◌, ◌-◌, length, take}
use Rattle.pdc_frame.specs.Stream.{IsBad}
use Rattle.pdc_session.specs.Session.{HasAnswered}
use Rattle.pdc_session.proofs.session.hear.Given as goal

abbrev pub invariant-loop-at : goal.invariant-loop-at
invariant-loop-at g l = record {
  within : l.at ≤ length l.piece;
  good : IsBad l.framer.step → ⊥;
  answered : HasAnswered l.id.value l.serving (take l.at l.piece) l.initial.framer l.initial.told (g.B.Buffer.content l.initial.out) l.framer l.told (g.B.Buffer.content l.out);
  in_place : length (g.B.Buffer.content l.out) ≤ g.B.Buffer.capacity l.initial.out → g.B.Buffer.capacity l.out ≡ g.B.Buffer.capacity l.initial.out;
}

abbrev pub decreases-loop-at : goal.decreases-loop-at
decreases-loop-at g l = length l.piece - l.at
