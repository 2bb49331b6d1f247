use Rattle.std.proofs.Common.{◌≡◌, ℕ, take, length, get_or, ap, sym, arith, length-append}
use Rattle.std.specs.List.{flat_map}
use Rattle.std.proofs.lemmas.List.Folds.{length-flat_map-take}
use Rattle.pdc_cfg.specs.declared.section.SectionView.{SectionView}
use Rattle.pdc_cfg.proofs.writing.append_sections.Goals as goal

pub append_bytes-requires : goal.append_bytes-requires
append_bytes-requires g c =
    let xs = c.args.sections.now in
    let i : ℕ = c.loop-section.section-index in
    let s = c.section-item.result in
    let old = g.B.Buffer.content c.args.out.now in
    let len : length (get_or xs i s).bytes.now ≡ length s.bytes.now = ap (λ (x : SectionView). length x.bytes.now) (sym c.section-item.is) in
    let fits = length-flat_map-take (λ (x : SectionView). x.bytes.now) xs i s (omega arith) in
    omega (arith, fits, len, c.requires, ap length c.loop-section.invariant.content, length-append old (flat_map (λ (x : SectionView). x.bytes.now) (take i xs)), c.loop-section.invariant.in_place)
