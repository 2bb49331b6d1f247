use Rattle.std.proofs.Common.{◌≡◌, ◌+◌, drop, length}
use Rattle.std.specs.Prelude.{map}
use Rattle.pdc_session.specs.Recent.{above, bytes_of, frame_of}
use Rattle.pdc_session.proofs.recent.len_above.Given as goal

abbrev pub invariant-loop-place : goal.invariant-loop-place
invariant-loop-place g l = l.wanted + length (bytes_of (above l.instant (map frame_of (drop l.place l.frames.items)))) ≡ length (bytes_of (above l.instant (map frame_of l.frames.items)))
