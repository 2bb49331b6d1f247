use Rattle.std.proofs.Common.{◌≤◌, ℕ, length, take, ap, arith, length-append}
use Rattle.std.specs.List.{flat_map}
use Rattle.pdc_cfg.specs.declared.section.SectionView.{SectionView}
use Rattle.pdc_cfg.proofs.Parts.{bytes_more}
use Rattle.pdc_cfg.proofs.writing.sections_len.Goals as goal

-- a section of the most channels is the longest
small_section : (s : SectionView) → length s.bytes.now ≤ 3390
small_section s = omega (arith, s.whole.size, s.shape.phasors_fit, s.shape.analogs_fit, s.shape.digitals_fit)

pub loop-section-preserved : goal.loop-section-preserved
loop-section-preserved c =
    let xs = c.args.sections.now in
    let i : ℕ = c.loop-section.section-index in
    let s = c.section-item.result in
    let bound : length s.bytes.now ≤ 3390 = small_section s in
    let more = bytes_more xs i s (omega arith) c.section-item.is in
    record {
      sum = omega (arith, c.loop-section.invariant.sum, ap length more, length-append (flat_map (λ (x : SectionView). x.bytes.now) (take i xs)) s.bytes.now);
      small = omega (arith, c.loop-section.invariant.small, bound);
    }
