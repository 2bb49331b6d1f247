use Rattle.std.proofs.Common.{◌≡◌, ◌≤◌, length, vec_len}
use Rattle.std.specs.Vec.{vec_capacity}
use Rattle.pdc_session.proofs.unread.blank_piece.Given as goal

abbrev pub invariant-loop : goal.invariant-loop
invariant-loop g l = record {
  items : length l.piece.items ≡ l.counter;
  len : vec_len l.piece ≡ l.counter;
  room : l.count ≤ vec_capacity l.piece;
}
