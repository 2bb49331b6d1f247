use Rattle.std.proofs.Common.{ℕ, List, ◌++◌, replicate, ap, ◌∙◌, ◌*◌, ◌%◌, ◌^◌}
use Rattle.std.specs.Int.{w16, to_be_bytes}
use Rattle.std.specs.List.{flat_map}
use Rattle.pdc_row.specs.Layout.{masks_of, nominal_word, stamp_words}
use Rattle.pdc_row.proofs.OwnSections.{in_order}
use Rattle.pdc_row.proofs.section.section_bytes.Goals as goal

pub returns : goal.returns
returns c =
    let s = c.args.output.now in
    let change : ℕ = c.args.change in
    let masks = c.append_masks.ensures.items ∙ ap (λ (t : List ℕ). c.append_bit_names.new.bytes.items ++ flat_map masks_of t) c.stamp_words.ensures in
    let nominal = c.append_word.ensures.items ∙ ap (λ (n : ℕ). c.append_masks.new.bytes.items ++ to_be_bytes w16 n) c.nominal_word.ensures in
    let count = c.append_word-2.ensures.items ∙ ap (λ (n : ℕ). c.append_word.new.bytes.items ++ to_be_bytes w16 n) c.low_word.ensures in
    in_order s.id.value (nominal_word s.nominal) (change % 2 ^ 16) (replicate (64 * 16) 32) (flat_map masks_of (stamp_words c.args.start change)) _ _ _ _ _ _ _
    c.new-bytes.ensures c.append_name.ensures.items c.append_numbers.ensures.items c.append_bit_names.ensures.items masks nominal count
