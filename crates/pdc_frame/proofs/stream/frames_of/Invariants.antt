use Rattle.std.proofs.Common.{take}
use Rattle.std.specs.Prelude.{map, flat_map}
use Rattle.pdc_frame.specs.Stream.{IsBad, HasTaken}
use Rattle.pdc_frame.proofs.stream.frames_of.Given as goal

abbrev pub invariant-loop-piece : goal.invariant-loop-piece
invariant-loop-piece g l = record {
  good : IsBad l.framer.step → ⊥;
  taken : HasTaken (flat_map (λ piece. piece.items) (take l.piece-index l.pieces)) (map (λ f. f.items) l.frames.items) l.framer;
}
