-- What of a block is written, where its number stands in the frame.
use Rattle.std.specs.Prelude.{ℕ, ◌+◌, List, Option, Some, None, slice_index_or, if◌then◌else◌}
use Rattle.std.specs.Fmt.{decimal, signed_decimal}
use Rattle.pdc_values.specs.Scaled.{scaled_text}
use Rattle.pdc_values.specs.Quantity.{signed_of, part_of, magnitude_of, frequency_of, analog_of}
use Rattle.pdc_values.specs.declared.field.Field.{Field}
use Rattle.pdc_values.specs.declared.field.Field.TheVariants.{Nothing, Stat, StatWords, Frequency, Rocof, Magnitude, Angle, Real, Imaginary, Analog, Digital}

-- the word at a place of a block, 0 behind its end
abbrev pub word_of : List ℕ → ℕ → ℕ
word_of words place = slice_index_or words place 0

-- The text of a field of a block of these words, by the word times its factor: volts and amperes in hundred-thousandths, the angle of a polar
-- phasor in ten-thousandths of a radian, the frequency in thousandths of a hertz, its rate of change in hundredths of a hertz a second. None
-- where it is computed, or in words.
abbrev pub exact_text : Field → List ℕ → Option (List ℕ)
exact_text Nothing words = None
exact_text Stat words = Some (decimal (word_of words 0))
exact_text StatWords words = None
exact_text (Frequency place nominal) words = Some (scaled_text 1000 (frequency_of (word_of words place) nominal))
exact_text (Rocof place) words = Some (scaled_text 100 (signed_of (word_of words place)))
exact_text (Magnitude p) words = if p.polar then Some (scaled_text 100000 (magnitude_of (word_of words p.place) p.factor)) else None
exact_text (Angle p) words = if p.polar then Some (scaled_text 10000 (signed_of (word_of words (p.place + 1)))) else None
exact_text (Real p) words = if p.polar then None else Some (scaled_text 100000 (part_of (word_of words p.place) p.factor))
exact_text (Imaginary p) words = if p.polar then None else Some (scaled_text 100000 (part_of (word_of words (p.place + 1)) p.factor))
exact_text (Analog place factor) words = Some (signed_decimal (analog_of (word_of words place) factor))
exact_text (Digital place) words = Some (decimal (word_of words place))
