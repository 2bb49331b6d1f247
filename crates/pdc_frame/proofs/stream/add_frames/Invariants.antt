use Rattle.std.proofs.Common.{◌≤◌, ◌-◌, length, take}
use Rattle.std.specs.Prelude.{map}
use Rattle.pdc_frame.specs.Stream.{IsBad, GoesOn}
use Rattle.pdc_frame.proofs.stream.add_frames.Given as goal

abbrev pub invariant-loop-at : goal.invariant-loop-at
invariant-loop-at g l = record {
  within : l.at ≤ length l.piece;
  good : IsBad l.framer.step → ⊥;
  follows : GoesOn (take l.at l.piece) (map (λ f. f.items) l.initial.frames.items) l.initial.framer (map (λ f. f.items) l.frames.items) l.framer;
}

abbrev pub decreases-loop-at : goal.decreases-loop-at
decreases-loop-at g l = length l.piece - l.at
