-- What the words of `mark-init` ask for.
use Rattle.std.specs.Prelude.{◌≡◌, ◌⊎◌, ℕ, ◌≤◌, List, Some, None, codes}
use Rattle.clap.specs.declared.parser.matches.Found.{Found}
use Rattle.clap.specs.Matches.{first_value}
use Rattle.pdc_command_line.specs.Number.{IsNumber}
use Rattle.pdc_command_line.specs.declared.request.MarkInit.{MarkInit}
use Rattle.pdc_frame.specs.declared.limits.TheConstants.{MAX_ID}
use Rattle.pdc_command_line.specs.declared.request.TheConstants.{MAX_RATE}

-- the word of this name writes this number
abbrev pub Writes : Found → List ℕ → ℕ → Type 0
Writes words name n = (text : List ℕ) × (first_value words name ≡ Some text) × IsNumber text n

-- the word of this name writes no number from 1 to the greatest
abbrev pub WritesNone : Found → List ℕ → ℕ → Type 0
WritesNone words name most = (text : List ℕ) × (first_value words name ≡ Some text) × ((n : ℕ) → IsNumber text n → 1 ≤ n → n ≤ most → ⊥)

-- the words ask for this mark file
pub record AsksFor (words : Found) (request : MarkInit) : Type 0 where
  pub file : first_value words (codes "FILE") ≡ Some request.file.now
  pub id : Writes words (codes "ID") request.id.value
  pub rate : Writes words (codes "RATE") request.rate

-- a word is missing
abbrev pub LacksWord : Found → Type 0
LacksWord words = (first_value words (codes "FILE") ≡ None) ⊎ ((first_value words (codes "ID") ≡ None) ⊎ (first_value words (codes "RATE") ≡ None))

-- a number is none, or out of its range
abbrev pub HasWrongNumber : Found → Type 0
HasWrongNumber words = WritesNone words (codes "ID") MAX_ID ⊎ WritesNone words (codes "RATE") MAX_RATE
