-- The rule of a log, and what its steps tell.
use Rattle.std.specs.Prelude.{ℕ, ◌≡◌, ◌==◌, true, List, [], ◌∷◌, ◌++◌, length, MatchBool}
use mathlib.Core.List.{IsPrefix}
use Rattle.logbook.specs.Pages.{Cell, Step, View, Book, Named}
use Rattle.pdc_life.specs.Answer.{ReadStep}

-- the first word is the length of the log. A book has two words, of which this one leaves the second at 0
abbrev pub IsKept : List Cell → List ReadStep → Type 0
IsKept cells log = cells ≡ (length log, true) ∷ (0, true) ∷ []

abbrev pub head_of : Book → Named
head_of b = record { tracked = true; key = 0; book = b }

-- the log so far was seen, and its length found
abbrev pub Looks : Step ReadStep → View ReadStep ℕ → ℕ → View ReadStep ℕ → Type 0
Looks s v found w = length w.0 ≡ found

-- the log was as long as was expected: then this step was added to it, and it began with what had been seen
abbrev pub Ends : Step ReadStep → List ReadStep → List ReadStep → Type 0
Ends s before after = (log : List ReadStep) × (after ≡ log ++ s.ask ∷ []) × (length log ≡ s.old) × IsPrefix before log

abbrev pub Adds : Step ReadStep → View ReadStep ℕ → ℕ → View ReadStep ℕ → Type 0
Adds s v found w = MatchBool (found == s.old) (Ends s v.0 w.0) (Unit {0})
