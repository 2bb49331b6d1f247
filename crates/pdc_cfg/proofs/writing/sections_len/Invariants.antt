use Rattle.std.proofs.Common.{◌≡◌, ◌*◌, ◌≤◌, take, length}
use Rattle.std.specs.List.{flat_map}
use Rattle.pdc_cfg.proofs.writing.sections_len.Given as goal

abbrev pub invariant-loop-section : goal.invariant-loop-section
invariant-loop-section l = record {
  sum : l.len ≡ length (flat_map (λ s. s.bytes.now) (take l.section-index l.sections));
  small : l.len ≤ 3390 * l.section-index;
}
