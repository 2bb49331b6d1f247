use Rattle.std.proofs.Common.{◌≡◌, ℕ, ◌+◌, ◌*◌, ◌^◌, List, ◌++◌, length, map, refl, sym, ap, ◌∙◌, arith, length-append}
use Rattle.std.specs.Prelude.{FitsSigned}
use Rattle.std.proofs.lemmas.Int.{of_z-to_z}
use Rattle.std.proofs.Math.Facts.{Fits-of_z}
use Rattle.std.specs.List.{flat_map}
use Rattle.std.specs.Int.{w16, w32, to_be_bytes, cast_unsigned, cast_signed}
use Rattle.std.proofs.lemmas.List.{length-map}
use Rattle.pdc_cfg.specs.declared.section.SectionView.{SectionView}
use Rattle.pdc_cfg.specs.Section.{fields_of_view}
use Rattle.pdc_cfg.specs.Config.{ConfigFields, config_fields_of, bytes_of_sections}
use Rattle.pdc_cfg.proofs.Parts.{length-payload_of, same_bytes, in_parts, whole_sections}
use Rattle.pdc_cfg.proofs.writing.append_payload.Goals as goal

-- what is appended first, and behind it
six : (old base count new : List ℕ) → new ≡ old ++ (base ++ count) → length base ≡ 4 → length count ≡ 2 → length new ≡ length old + 6
six old base count new e b c = omega (arith, ap length e, length-append old (base ++ count), length-append base count, b, c)

pub append_sections-requires : goal.append_sections-requires
append_sections-requires g c =
    let config = c.args.config.now in
    let xs = config.sections.items in
    let started = six (g.B.Buffer.content c.args.out.now) (to_be_bytes w32 (config.flags * 2 ^ 24 + config.time_base)) (to_be_bytes w16 (length xs)) _ c.append_start.ensures.content refl refl in
    omega (
      arith,
      c.requires,
      started,
      c.append_start.ensures.in_place,
      length-payload_of (config_fields_of config),
      ap length (same_bytes xs),
      ap (λ t. length (flat_map (λ (s : SectionView). s.bytes.now) t)) c.as_slice.ensures.value,
    )

pub append_rate-requires : goal.append_rate-requires
append_rate-requires g c =
    let config = c.args.config.now in
    let xs = config.sections.items in
    let started = six (g.B.Buffer.content c.args.out.now) (to_be_bytes w32 (config.flags * 2 ^ 24 + config.time_base)) (to_be_bytes w16 (length xs)) _ c.append_start.ensures.content refl refl in
    omega (
      arith,
      c.requires,
      started,
      c.append_start.ensures.in_place,
      ap length c.append_sections.ensures.content,
      length-append (g.B.Buffer.content c.append_start.new.out) (flat_map (λ (s : SectionView). s.bytes.now) c.as_slice.result.now),
      c.append_sections.ensures.in_place,
      length-payload_of (config_fields_of config),
      ap length (same_bytes xs),
      ap (λ t. length (flat_map (λ (s : SectionView). s.bytes.now) t)) c.as_slice.ensures.value,
    )

pub returns-clause-content : goal.returns-clause-content
returns-clause-content g c =
    let config : ConfigFields = config_fields_of c.args.config.now in
    let xs = c.args.config.now.sections.items in
    let old : List ℕ = g.B.Buffer.content c.args.out.now in
    let begun : List ℕ = g.B.Buffer.content c.append_start.new.out in
    let filled : List ℕ = g.B.Buffer.content c.append_sections.new.out in
    let start : List ℕ = to_be_bytes w32 (config.flags * 2 ^ 24 + config.time_base) ++ to_be_bytes w16 (length config.sections) in
    let sections : List ℕ = bytes_of_sections config.sections in
    let rate : List ℕ = to_be_bytes w16 (cast_unsigned w16 config.rate) in
    let lying : flat_map (λ (s : SectionView). s.bytes.now) c.as_slice.result.now ≡ sections = ap (flat_map (λ (s : SectionView). s.bytes.now)) c.as_slice.ensures.value ∙ sym (same_bytes xs) in
    let count : length xs ≡ length config.sections = sym (length-map xs fields_of_view) in
    let started = c.append_start.ensures.content ∙ ap (λ (n : ℕ). old ++ (to_be_bytes w32 (config.flags * 2 ^ 24 + config.time_base) ++ to_be_bytes w16 n)) count in
    let signed : FitsSigned w16 c.args.config.now.rate = record { sfits = omega arith } in
    let bits : cast_unsigned w16 (cast_signed w16 (cast_unsigned w16 c.args.config.now.rate)) ≡ cast_unsigned w16 c.args.config.now.rate = of_z-to_z w16 (cast_unsigned w16 c.args.config.now.rate) (Fits-of_z signed).fits in
    in_parts old start sections rate begun filled (g.B.Buffer.content c.append_rate.new.out) started
    (c.append_sections.ensures.content ∙ ap (λ (t : List ℕ). begun ++ t) lying) (c.append_rate.ensures.content ∙ ap (λ (n : ℕ). filled ++ to_be_bytes w16 n) bits)

pub returns-clause-config : goal.returns-clause-config
returns-clause-config g c =
    let config = c.args.config.now in
    let count : length (map fields_of_view config.sections.items) ≡ length config.sections.items = length-map config.sections.items fields_of_view in
    record {
      flags = c.append_start.ensures.flags;
      time_base = omega (arith, config.time_base_fits);
      some = omega (arith, count, config.some);
      few = omega (arith, count, config.few);
      sections = whole_sections config.sections.items;
      rate = record { sfits = omega arith };
      spelled = refl;
    }
