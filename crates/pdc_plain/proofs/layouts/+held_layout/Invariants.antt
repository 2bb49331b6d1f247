use Rattle.std.proofs.Common.{length}
use Rattle.pdc_plain.proofs.layouts.+held_layout.Given as goal

abbrev pub decreases-held_layout : goal.decreases-held_layout
decreases-held_layout l = length l.life.now
