use Rattle.std.proofs.Common.{◌≡◌, drop, length}
use Rattle.pdc_table.specs.RingRows.{copied}
use Rattle.pdc_table.proofs.copied.copy_at.Given as goal

abbrev pub invariant-loop-instant : goal.invariant-loop-instant
invariant-loop-instant g l = record {
  size : length l.mine ≡ l.circle.window;
  left : (default : g.row.T.Denot) → copied default l.circle.window (drop l.instant-index l.instants) l.others l.mine ≡ copied default l.circle.window l.instants l.others l.initial.mine;
}
