-- The wire of a row is a frame that is cut; the wire of a layout is a frame whose payload is the layout.
use Rattle.std.proofs.Common.{rules, ◌≡◌, ◌↔◌, inr, inl, ℕ, ◌+◌, ◌*◌, ◌%◌, ◌^◌, ◌<◌, ◌≤◌, false, List, [], ◌∷◌, ◌++◌, length, map, refl, sym, ap, arith, suc, zero, length-append}
use Rattle.std.specs.Int.{w16, w32, to_be_bytes, cast_signed, cast_unsigned}
use Rattle.std.proofs.lemmas.Int.{of_z-to_z}
use Rattle.std.specs.List.{AllByRecursion, flat_map}
use Rattle.std.proofs.Math.Nat.{mul-le-mul_right}
use Rattle.std.proofs.lemmas.Bool.{cases_lt}
use Rattle.std.proofs.lemmas.List.Folds.{flat_map-map}
use Rattle.pdc_row.specs.pdc_cfg.Section.{SectionFields, IsSection}
use Rattle.pdc_row.specs.pdc_cfg.Config.{ConfigFields, bytes_of_sections}
use Rattle.pdc_row.specs.pdc_cfg.declared.shape.Shape.{Shape}
use Rattle.pdc_row.specs.pdc_frame.Tag.{IsTag, tag_of}
use Rattle.pdc_row.specs.pdc_block.Block.{AreOfShapes, AreWords, bytes_of_words}
use Rattle.pdc_row.specs.CellView.{BlockView}
use Rattle.pdc_row.specs.RowView.{RowView}
use Rattle.pdc_row.specs.declared.output.Output.{Output}
use Rattle.pdc_row.specs.Layout.{layout_payload_of, own_block, own_bytes, row_payload}
use Rattle.pdc_row.specs.Laws.{LayoutsAreFrames, RowsAreCut, RowsAreFrames, words_of_row}
use Rattle.pdc_row.proofs.Bytes.{Bytes, Bytes-append, Bytes-nil, Bytes-long, Bytes-word}
use Rattle.pdc_row.proofs.Layouts.{same_payload}
use Rattle.pdc_row.proofs.OwnSections.{Bytes-own, own_is_section}
use Rattle.pdc_row.proofs.RowFrames.{row_is_frame}

-- the own words
own_words : (start change : ℕ) → start < 2 ^ 32 → change < 2 ^ 32 → AreWords (own_block start change)
own_words start change h k zero = omega arith
own_words start change h k (suc zero) = omega arith
own_words start change h k (suc (suc zero)) = omega arith
own_words start change h k (suc (suc (suc zero))) = omega (arith, h)
own_words start change h k (suc (suc (suc (suc zero)))) = omega arith
own_words start change h k (suc (suc (suc (suc (suc zero))))) = omega (arith, k)
own_words start change h k (suc (suc (suc (suc (suc (suc zero)))))) = omega arith
own_words start change h k (suc (suc (suc (suc (suc (suc (suc i))))))) = omega arith

pub rows_are_cut : RowsAreCut
rows_are_cut row own shapes phasors analogs digitals start change blocks = record {
  shaped = (omega (arith, phasors, analogs, digitals), own_words row.start row.change start change, blocks);
  parts = ap (λ (t : List ℕ). bytes_of_words (own_block row.start row.change) ++ t) (sym (flat_map-map bytes_of_words (λ (b : BlockView). b.words) row.blocks));
}

-- each block takes 214 bytes at most
length-words : (words : List ℕ) → length (bytes_of_words words) ≡ 2 * length words
length-words [] = refl
length-words (w ∷ words) = omega (arith, length-words words)

short_blocks : (shapes : List Shape) (blocks : List BlockView) → AreOfShapes shapes (map (λ (b : BlockView). b.words) blocks) → length (flat_map (λ (b : BlockView). bytes_of_words b.words) blocks) ≤ 214 * length shapes
short_blocks [] [] h = omega arith
short_blocks [] (b ∷ blocks) h = absurd h
short_blocks (shape ∷ shapes) [] h = absurd h
short_blocks (shape ∷ shapes) (b ∷ blocks) h =
    let rest = short_blocks shapes blocks h.2 in
    let one = length-append (bytes_of_words b.words) (flat_map (λ (c : BlockView). bytes_of_words c.words) blocks) in
    omega (arith, rest, one, length-words b.words, h.0, shape.phasors_fit, shape.analogs_fit, shape.digitals_fit)

short_payload : (row : RowView) (shapes : List Shape) → length shapes ≤ 16 → AreOfShapes shapes (words_of_row row) → length (row_payload row) ≤ 3438
short_payload row shapes few h =
    omega (arith, short_blocks shapes row.blocks h, few, length-append (bytes_of_words (own_block row.start row.change)) (flat_map (λ (b : BlockView). bytes_of_words b.words) row.blocks))

-- what the law of tags says
pub record Tags : Type 0 where
  pub computed : (i time_base rate soc frac : ℕ) → 1 ≤ rate → (tag_of i time_base rate ≡ (soc, frac)) ↔ IsTag i time_base rate soc frac
  pub exists : (i time_base rate : ℕ) → 1 ≤ rate → (soc : ℕ) × (frac : ℕ) × IsTag i time_base rate soc frac
  pub count : (i time_base rate soc frac : ℕ) → rate ≤ time_base → IsTag i time_base rate soc frac → frac < time_base

second_below : (soc slot rate i : ℕ) → soc * rate + slot ≡ i → i < 4294967296 * rate → soc < 2 ^ 32
second_below soc slot rate i e h = elim (cases_lt soc 4294967296) [
  | inl below ↦ below
  | inr past ↦ (let far : 4294967296 * rate ≤ soc * rate = mul-le-mul_right {m = 4294967296} {n = soc} rate past in absurd (omega (arith, e, h, far)))
]

module _ (tags : Tags) where
  pub rows_are_frames : RowsAreFrames
  rows_are_frames output row shapes few blocks instant quality =
      let tag = tags.exists row.instant output.time_base output.rate output.rate_low in
      let same : tag_of row.instant output.time_base output.rate ≡ (tag.0, tag.1) = (tags.computed row.instant output.time_base output.rate tag.0 tag.1 output.rate_low).1 tag.2 in
      row_is_frame output row (tag.0, tag.1) (sym same) (second_below tag.0 tag.2.slot output.rate row.instant tag.2.is_instant instant)
      (tags.count row.instant output.time_base output.rate tag.0 tag.1 output.time_base_low tag.2) quality (short_payload row shapes few blocks)

-- ---- layouts

abbrev own_shape : Shape
own_shape = record { phasors = 0; analogs = 0; digitals = 4; phasors_fit = omega arith; analogs_fit = omega arith; digitals_fit = omega arith }

-- what the own section says
abbrev own_fields : Output → (start change : ℕ) → SectionFields
own_fields output start change = record {
  bytes = own_bytes output.id.value output.nominal start change;
  shape = own_shape;
  source = output.id.value;
  count = change % 2 ^ 16;
  polar = false;
}

abbrev config_of : Output → (start change : ℕ) → List SectionFields → ConfigFields
config_of output start change sections = record {
  flags = 0;
  time_base = output.time_base;
  sections = own_fields output start change ∷ sections;
  rate = cast_signed w16 output.rate;
}

whole_own : (output : Output) (start change : ℕ) → IsSection (own_fields output start change)
whole_own output start change = own_is_section output start change (own_fields output start change) refl refl refl refl refl refl refl

Bytes-sections : (sections : List SectionFields) → AllByRecursion IsSection sections → Bytes (bytes_of_sections sections)
Bytes-sections [] a = Bytes-nil
Bytes-sections (s ∷ sections) a = Bytes-append (record { all = a.0.fits }) (Bytes-sections sections a.1)

-- each section takes 3390 bytes at most
short_sections : (sections : List SectionFields) → AllByRecursion IsSection sections → length (bytes_of_sections sections) ≤ 3390 * length sections
short_sections [] a = omega arith
short_sections (s ∷ sections) a =
    let rest = short_sections sections a.1 in
    omega (arith, rest, a.0.size, length-append s.bytes (bytes_of_sections sections), s.shape.phasors_fit, s.shape.analogs_fit, s.shape.digitals_fit)

abbrev front_part : Output → (start change : ℕ) → List SectionFields → List ℕ
front_part output start change sections =
    to_be_bytes w32 output.time_base ++ to_be_bytes w16 (1 + length sections) ++ own_bytes output.id.value output.nominal start change

Bytes-layout : (output : Output) (start change : ℕ) (sections : List SectionFields) → AllByRecursion IsSection sections → Bytes (layout_payload_of output start change sections)
Bytes-layout output start change sections a =
    Bytes-append (Bytes-append (Bytes-append (Bytes-append (Bytes-long output.time_base) (Bytes-word (1 + length sections))) (Bytes-own output start change)) (Bytes-sections sections a)) (Bytes-word output.rate)

length-front : (output : Output) (start change : ℕ) (sections : List SectionFields) → length (front_part output start change sections) ≡ 1076
length-front output start change sections = refl

short_layout : (output : Output) (start change : ℕ) (sections : List SectionFields) → length sections ≤ 16 → AllByRecursion IsSection sections → length (layout_payload_of output start change sections) + 16 < 2 ^ 16
short_layout output start change sections few a =
    omega (
      arith,
      few,
      short_sections sections a,
      length-front output start change sections,
      length-append (front_part output start change sections) (bytes_of_sections sections),
      length-append (front_part output start change sections ++ bytes_of_sections sections) (to_be_bytes w16 output.rate),
    )

rate_back : (output : Output) → cast_unsigned w16 (cast_signed w16 output.rate) ≡ output.rate
rate_back output = of_z-to_z w16 output.rate (omega (arith, output.rate_high))

pub layouts_are_frames : LayoutsAreFrames
layouts_are_frames output start change soc sections few a soc_fits = (
  record {
    fits = record {
      version = inr refl;
      id_low = output.id.low;
      id_high = omega (arith, output.id.high);
      soc = soc_fits;
      quality = omega arith;
      frac = omega arith;
      size = short_layout output start change sections few a;
      bytes = (Bytes-layout output start change sections a).all;
    };
    spelled = refl;
  },
  record {
    config = config_of output start change sections;
    own = own_fields output start change;
    spelled = record {
      flags = omega arith;
      time_base = output.time_base_high;
      some = omega arith;
      few = omega (arith, few);
      sections = (whole_own output start change, a);
      rate = search rules;
      spelled = sym (same_payload output start change (own_fields output start change) sections (config_of output start change sections) refl refl refl refl (rate_back output));
    };
    itself = refl;
    sections = refl;
    time_base = refl;
    rate = rate_back output;
  },
)
