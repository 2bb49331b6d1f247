use Rattle.std.proofs.Common.{length, ap, arith}
use Rattle.std.specs.List.{flat_map}
use Rattle.pdc_cfg.specs.declared.section.SectionView.{SectionView}
use Rattle.pdc_cfg.specs.Config.{config_fields_of}
use Rattle.pdc_cfg.proofs.Parts.{length-payload_of, same_bytes}
use Rattle.pdc_cfg.proofs.writing.payload_len.Goals as goal

pub returns-clause-value : goal.returns-clause-value
returns-clause-value c =
    let xs = c.args.config.now.sections.items in
    omega (arith, c.sections_len.ensures.value, length-payload_of (config_fields_of c.args.config.now), ap length (same_bytes xs), ap (λ t. length (flat_map (λ (s : SectionView). s.bytes.now) t)) c.as_slice.ensures.value)
