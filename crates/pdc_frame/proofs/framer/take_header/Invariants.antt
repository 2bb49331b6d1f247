use Rattle.std.proofs.Common.{◌≡◌, ◌-◌, ◌≤◌, ◌++◌, length, take}
use Rattle.pdc_frame.specs.Stream.{IsGoing}
use Rattle.pdc_frame.proofs.framer.take_header.Given as goal

abbrev pub invariant-loop-held : goal.invariant-loop-held
invariant-loop-held g l = record {
  room : l.held.capacity ≡ l.initial.held.capacity;
  taken : l.taken ≤ length l.piece;
  bytes : l.held.items ≡ l.initial.held.items ++ take l.taken l.piece;
  going : IsGoing l.held.items;
}

abbrev pub decreases-loop-held : goal.decreases-loop-held
decreases-loop-held g l = length l.piece - l.taken
