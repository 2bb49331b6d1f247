-- The payload of a row's frame.
use Rattle.std.proofs.Common.{◌≡◌, inr, ℕ, ◌^◌, ◌<◌, ◌≤◌, List, length, refl, subst, arith}
use Rattle.std.specs.Int.{w16, to_be_bytes}
use Rattle.pdc_row.specs.pdc_frame.Frame.{Fields, Fits, IsFrame}
use Rattle.pdc_row.specs.pdc_frame.declared.frame.Kind.TheVariants.{DataFrame}
use Rattle.pdc_row.specs.pdc_frame.Tag.{tag_of}
use Rattle.pdc_row.specs.pdc_block.Block.{bytes_of_words}
use Rattle.pdc_row.specs.CellView.{BlockView}
use Rattle.pdc_row.specs.RowView.{RowView}
use Rattle.pdc_row.specs.declared.output.Output.{Output}
use Rattle.pdc_row.specs.Layout.{own_block, row_payload, row_fields, wire_of}
use Rattle.pdc_row.proofs.Bytes.{Bytes, Bytes-append, Bytes-flat_map, Bytes-word}

Bytes-words : (words : List ℕ) → Bytes (bytes_of_words words)
Bytes-words words = Bytes-flat_map (to_be_bytes w16) Bytes-word words

Bytes-row_payload : (row : RowView) → Bytes (row_payload row)
Bytes-row_payload row =
    Bytes-append (Bytes-words (own_block row.start row.change)) (Bytes-flat_map (λ (b : BlockView). bytes_of_words b.words) (λ (b : BlockView). Bytes-words b.words) row.blocks)

-- the fields before the payload of a row's frame, for any time tag
abbrev pub head_of : Output → RowView → ℕ × ℕ → Fields
head_of output row tag = record { kind = DataFrame; version = 2; id = output.id.value; soc = tag.0; quality = row.quality; frac = tag.1; payload = row_payload row }

-- what a row is on the wire is a frame
pub row_is_frame : (output : Output) (row : RowView) (tag : ℕ × ℕ) → tag ≡ tag_of row.instant output.time_base output.rate → tag.0 < 2 ^ 32 → tag.1 < output.time_base
    → row.quality < 2 ^ 8 → length (row_payload row) ≤ 3438 → IsFrame (wire_of output row) (row_fields output row)
row_is_frame output row tag e soc frac quality size =
    let fits : Fits (head_of output row tag) = record {
      version = inr refl;
      id_low = output.id.low;
      id_high = omega (arith, output.id.high);
      soc = soc;
      quality = quality;
      frac = omega (arith, frac, output.time_base_high);
      size = omega (arith, size);
      bytes = (Bytes-row_payload row).all;
    } in
    record { fits = subst (λ (t : ℕ × ℕ). Fits (head_of output row t)) e fits; spelled = refl }
