use Rattle.std.proofs.Common.{◌≡◌, ◌*◌, ◌≤◌, take}
use Rattle.std.specs.Prelude.{sum_by}
use Rattle.pdc_block.specs.Block.{body_len_of}
use Rattle.pdc_show.specs.declared.held.HeldSection.{HeldSection}
use Rattle.pdc_show.proofs.held.Held.payload_len.Given as goal

abbrev pub invariant-loop-section : goal.invariant-loop-section
invariant-loop-section l = record {
  sum : l.len ≡ sum_by (λ (section : HeldSection). body_len_of section.shape) (take l.section-index l.self.sections.items);
  small : l.len ≤ 214 * l.section-index;
}
