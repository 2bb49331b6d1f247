use Rattle.std.proofs.Common.{◌≡◌, drop, length}
use Rattle.pdc_table.specs.RingRows.{copied}
use Rattle.pdc_table.proofs.copied.copy_at_queued.Given as goal

abbrev pub invariant-loop-index : goal.invariant-loop-index
invariant-loop-index g l = record {
  size : length l.mine ≡ l.circle.window;
  left : (default : g.row.T.Denot) → copied default l.circle.window (drop l.index l.instants.items) l.others l.mine ≡ copied default l.circle.window l.instants.items l.others l.initial.mine;
}
