use Rattle.std.proofs.Common.{◌≡◌, ◌++◌, take}
use Rattle.std.specs.List.{flat_map}
use Rattle.pdc_cfg.proofs.writing.append_sections.Given as goal

abbrev pub invariant-loop-section : goal.invariant-loop-section
invariant-loop-section g l = record {
  content : g.B.Buffer.content l.out ≡ g.B.Buffer.content l.fn.out ++ flat_map (λ s. s.bytes.now) (take l.section-index l.sections);
  in_place : g.B.Buffer.capacity l.out ≡ g.B.Buffer.capacity l.fn.out;
}
