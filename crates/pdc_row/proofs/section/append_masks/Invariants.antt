use Rattle.std.proofs.Common.{◌≡◌, ◌*◌, ◌+◌, ◌++◌, take, length}
use Rattle.std.specs.List.{flat_map}
use Rattle.pdc_row.specs.Layout.{masks_of}
use Rattle.pdc_row.proofs.section.append_masks.Given as goal

abbrev pub invariant-loop-word : goal.invariant-loop-word
invariant-loop-word l = record {
  items : l.bytes.items ≡ l.fn.bytes.items ++ flat_map masks_of (take l.word-index l.words);
  len : length l.bytes.items ≡ length l.fn.bytes.items + 4 * l.word-index;
}
