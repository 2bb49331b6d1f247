use Rattle.std.proofs.Common.{◌≡◌, take}
use Rattle.std.specs.Prelude.{sum_by}
use Rattle.pdc_block.specs.Block.{body_len_of}
use Rattle.pdc_show.specs.declared.held.HeldSection.{HeldSection}
use Rattle.pdc_show.proofs.lines.append_blocks.Given as goal

abbrev pub invariant-loop-section : goal.invariant-loop-section
invariant-loop-section g l = l.place ≡ sum_by (λ (section : HeldSection). body_len_of section.shape) (take l.section-index l.sections)
