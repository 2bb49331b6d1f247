-- How much space the values of a PMU take, by its shape.
use Rattle.std.specs.Prelude.{ℕ, ◌+◌, ◌*◌}
use Rattle.pdc_cfg.specs.declared.shape.Shape.{Shape}

-- The words of a block: STAT, two for each phasor, FREQ, DFREQ, one for each analog value and each digital word
-- (C37.118.2-2011, table 6, in 16-bit formats). One phasor takes 5; 32, 32 and 8 take 107.
abbrev pub word_count_of : Shape → ℕ
word_count_of shape = 3 + 2 * shape.phasors + shape.analogs + shape.digitals

-- The bytes of a section from STN to CFGCNT (C37.118.2-2011, table 9): 30 of single fields; for each channel a name
-- of 16 bytes, and for each digital word 16 of them; a factor of 4 bytes for each phasor, analog value and digital
-- word. One phasor takes 50; 32, 32 and 8 take 3390.
abbrev pub section_len : ℕ → ℕ → ℕ → ℕ
section_len phasors analogs digitals =
    30 + 16 * (phasors + analogs + 16 * digitals) + 4 * (phasors + analogs + digitals)

abbrev pub section_len_of : Shape → ℕ
section_len_of shape = section_len shape.phasors shape.analogs shape.digitals
