-- The STAT word of a data frame (IEEE C37.118.2-2011, table 7).
use Rattle.std.specs.Prelude.{ℕ, ◌/◌, ◌%◌, ◌^◌, ◌==◌, Bool, if◌then◌else◌}
use Rattle.pdc_block.specs.declared.stat.ErrorClass.{ErrorClass}
use Rattle.pdc_block.specs.declared.stat.ErrorClass.TheVariants.{Good, PmuError, TestOrAbsent, ErrorNoUse}

-- the bit of this number, 0 the lowest: bit 15 of A1F0 is set, bit 14 is not
abbrev pub has_bit : ℕ → ℕ → Bool
has_bit k word = (word / 2 ^ k) % 2 == 1

-- The class by bits 15 and 14: 00 good, 01 PMU error, 10 test or absent, 11 error and not to be used.
abbrev pub error_class_of : ℕ → ErrorClass
error_class_of word =
    if has_bit 15 word then (if has_bit 14 word then ErrorNoUse else TestOrAbsent)
    else (if has_bit 14 word then PmuError else Good)
