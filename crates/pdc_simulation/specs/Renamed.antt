-- A section under another source and count (IEEE C37.118.2-2011, table 9: IDCODE stands behind the 16 bytes of STN, and CFGCNT ends the section).
use Rattle.std.specs.Prelude.{ℕ, ◌+◌, ◌-◌, ◌/◌, ◌%◌, List, length, slice_set}
use Rattle.pdc_cfg.specs.Section.{SectionFields}

-- the word at a place, high byte first
abbrev pub with_word : (place word : ℕ) → List ℕ → List ℕ
with_word place word bytes = slice_set (slice_set bytes place (word / 256)) (place + 1) (word % 256)

-- the section with this source and this count, else as it was
abbrev pub renamed : (source count : ℕ) → SectionFields → SectionFields
renamed source count s = record s {
  bytes = with_word (length s.bytes - 2) count (with_word 16 source s.bytes);
  source = source;
  count = count;
}
