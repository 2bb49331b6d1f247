-- The payload of a layout's frame, as a configuration.
use Rattle.std.proofs.Common.{◌≡◌, ℕ, ◌+◌, ◌*◌, ◌^◌, List, ◌∷◌, ◌++◌, length, sym, ap, ◌∙◌, append_assoc, arith}
use Rattle.std.specs.Int.{w16, w32, to_be_bytes, cast_unsigned}
use Rattle.pdc_row.specs.pdc_frame.declared.frame.Kind.TheVariants.{Cfg2}
use Rattle.pdc_row.specs.pdc_frame.Frame.{Fields}
use Rattle.pdc_row.specs.pdc_cfg.Section.{SectionFields}
use Rattle.pdc_row.specs.pdc_cfg.Config.{ConfigFields, bytes_of_sections, payload_of, config_frame_of}
use Rattle.pdc_row.specs.declared.output.Output.{Output}
use Rattle.pdc_row.specs.Layout.{own_bytes, layout_fields_of, layout_payload_of}

pub same_payload : (output : Output) (start change : ℕ) (own : SectionFields) (xs : List SectionFields) (c : ConfigFields) → c.flags ≡ 0 → c.time_base ≡ output.time_base → c.sections ≡ own ∷ xs
    → own.bytes ≡ own_bytes output.id.value output.nominal start change → cast_unsigned w16 c.rate ≡ output.rate → payload_of c ≡ layout_payload_of output start change xs
same_payload output start change own xs c flags time_base sections bytes rate =
    let base : c.flags * 2 ^ 24 + c.time_base ≡ output.time_base = omega (arith, flags, time_base) in
    let count : length (own ∷ xs) ≡ 1 + length xs = omega arith in
    let first : List ℕ = to_be_bytes w32 output.time_base ++ to_be_bytes w16 (1 + length xs) in
    let last : List ℕ = to_be_bytes w16 output.rate in
    ap (λ (n : ℕ). to_be_bytes w32 n ++ to_be_bytes w16 (length c.sections) ++ bytes_of_sections c.sections ++ to_be_bytes w16 (cast_unsigned w16 c.rate)) base
    ∙ ap (λ (n : ℕ). to_be_bytes w32 output.time_base ++ to_be_bytes w16 (length c.sections) ++ bytes_of_sections c.sections ++ to_be_bytes w16 n) rate
    ∙ ap (λ (t : List SectionFields). to_be_bytes w32 output.time_base ++ to_be_bytes w16 (length t) ++ bytes_of_sections t ++ last) sections
    ∙ ap (λ (n : ℕ). to_be_bytes w32 output.time_base ++ to_be_bytes w16 n ++ bytes_of_sections (own ∷ xs) ++ last) count
    ∙ ap (λ (t : List ℕ). first ++ (t ++ bytes_of_sections xs) ++ last) bytes
    ∙ ap (λ (t : List ℕ). t ++ last) (sym (append_assoc first (own_bytes output.id.value output.nominal start change) (bytes_of_sections xs)))

-- the frame of the configuration is that of the layout
pub same_fields : (output : Output) (start change soc : ℕ) (own : SectionFields) (xs : List SectionFields) (c : ConfigFields) → c.flags ≡ 0 → c.time_base ≡ output.time_base → c.sections ≡ own ∷ xs
    → own.bytes ≡ own_bytes output.id.value output.nominal start change → cast_unsigned w16 c.rate ≡ output.rate → config_frame_of Cfg2 output.id.value soc c ≡ layout_fields_of output start change xs soc
same_fields output start change soc own xs c flags time_base sections bytes rate =
    let of_payload : List ℕ → Fields = λ (payload : List ℕ). record { kind = Cfg2; version = 2; id = output.id.value; soc = soc; quality = 0; frac = 0; payload = payload } in
    ap of_payload (same_payload output start change own xs c flags time_base sections bytes rate)
