use Rattle.std.proofs.Common.{◌≡◌, ℕ, ℤ, ◌/◌, ◌%◌, ◌^◌, ◌<◌, ◌≤◌, List, length, map, refl, sym, ap, ◌∙◌, arith}
use Rattle.std.specs.Prelude.{bit_and, FitsSigned}
use Rattle.std.specs.Int.{w16, cast_unsigned, cast_signed}
use Rattle.std.proofs.lemmas.List.{append-nil, length-map}
use Rattle.std.proofs.lemmas.Nat.{and_mask}
use Rattle.std.proofs.lemmas.Int.{of_z-to_z}
use Rattle.std.proofs.Math.Facts.{sfits_to_z, Fits-of_z}
use Rattle.pdc_frame.specs.Bytes.{AreBytes}
use Rattle.pdc_frame.specs.Parts.{WordsAreTheirBytes}
use Rattle.std.specs.List.{AllByRecursion}
use Rattle.pdc_cfg.specs.Section.{fields_of_view, IsSection}
use Rattle.pdc_cfg.specs.Config.{ConfigFields, IsConfig, bytes_of_sections, section_count_in}
use Rattle.pdc_cfg.proofs.Configs.{ArePlaces, spelled-places}
use Rattle.pdc_cfg.proofs.reading.config_of.Goals as goal

-- the bits of a signed number that was read from a word
rate-is : (z : ℤ) (n : ℕ) → n < 2 ^ 16 → FitsSigned w16 z → z ≡ cast_signed w16 n → cast_unsigned w16 (cast_signed w16 (cast_unsigned w16 z)) ≡ n
rate-is z n n_fits z_fits e = of_z-to_z w16 (cast_unsigned w16 z) (Fits-of_z z_fits).fits ∙ ap (cast_unsigned w16) e ∙ of_z-to_z w16 n n_fits

is_config : (words : WordsAreTheirBytes) (payload : List ℕ) (config : ConfigFields) (base : ℕ) → AreBytes payload → ArePlaces payload config → config.flags ≡ base / 2 ^ 24 → config.time_base ≡ base % 2 ^ 24 → base < 2 ^ 32
    → 0 < length config.sections → length config.sections ≤ 17 → AllByRecursion IsSection config.sections → FitsSigned w16 config.rate → IsConfig payload config
is_config words payload config base fits places flags time_base small some few sections rate = record {
  flags = omega (arith, flags);
  time_base = omega (arith, time_base);
  some = some;
  few = few;
  sections = sections;
  rate = rate;
  spelled = spelled-places words payload config fits places;
}

pub returns : goal.returns
returns c =
    let payload : List ℕ = c.args.payload.now in
    let base : ℕ = c.read_long-base.result in
    let sections = c.args.sections in
    let low : bit_and base 16777215 ≡ base % 2 ^ 24 = and_mask base 24 in
    let begins = c.requires.sections in
    let signed : FitsSigned w16 c.cast_signed.result = record { sfits = c.cast_signed.type_inv } in
    let count : length (map fields_of_view sections.items) ≡ section_count_in payload = length-map sections.items fields_of_view ∙ sym c.requires.count in
    is_config c.words_are_their_bytes.ensures payload _ base (λ i. omega (arith, c.type_inv.payload i)) (record {
      long = omega arith;
      base = omega (arith, low, c.read_long-base.ensures);
      count = count;
      sections = sym (begins.parts ∙ append-nil (bytes_of_sections (map fields_of_view sections.items)));
      rate = rate-is c.cast_signed.result c.read_word.result c.read_word.type_inv signed c.cast_signed.ensures ∙ c.read_word.ensures;
    }) refl low c.read_long-base.type_inv (omega (arith, count, c.requires.count)) (omega (arith, count, c.requires.count)) begins.whole (sfits_to_z (Fits-of_z signed))
