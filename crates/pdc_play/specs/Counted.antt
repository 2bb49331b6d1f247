-- A reader that counts how often it is read.
use Rattle.std.specs.Prelude.{ℕ}
use Rattle.pdc_play.specs.declared.counted.CountedReader.{CountedReader}

-- the reader in it
abbrev pub reader_of : {R : Type 0} → CountedReader R → R
reader_of counted = counted.reader

-- how often it was read
abbrev pub reads_of : {R : Type 0} → CountedReader R → ℕ
reads_of counted = counted.reads
