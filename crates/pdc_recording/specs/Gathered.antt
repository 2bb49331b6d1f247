-- What is in a file, with what is gathered for it.
use Rattle.std.specs.Prelude.{ℕ, List, Option}
use Rattle.std.specs.Io.KnownBytes.{append_known}

-- the bytes of the file, where they are known, and then those that are to be written behind them
abbrev pub all_of : (contents : Option (List ℕ)) → (gathered : List ℕ) → Option (List ℕ)
all_of contents gathered = append_known contents gathered
