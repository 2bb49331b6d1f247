use Rattle.std.proofs.Common.{◌≡◌, ◌++◌, drop}
use Rattle.std.specs.Prelude.{map}
use Rattle.pdc_session.specs.Recent.{above, bytes_of, frame_of, greatest_of}
use Rattle.pdc_session.proofs.recent.append_above.Given as goal

abbrev pub invariant-loop-place : goal.invariant-loop-place
invariant-loop-place g l = record {
  bytes : g.B.Buffer.content l.out ++ bytes_of (above l.instant (map frame_of (drop l.place l.frames.items))) ≡ g.B.Buffer.content l.initial.out ++ bytes_of (above l.instant (map frame_of l.frames.items));
  in_place : g.B.Buffer.capacity l.out ≡ g.B.Buffer.capacity l.initial.out;
  greatest : greatest_of l.greatest (above l.instant (map frame_of (drop l.place l.frames.items))) ≡ greatest_of l.instant (above l.instant (map frame_of l.frames.items));
}
