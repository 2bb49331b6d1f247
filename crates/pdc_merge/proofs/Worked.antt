-- What is kept of a layout, worked out.
use Rattle.std.specs.Prelude.{◌≡◌, ℕ, true, false, List, [], ◌∷◌, ◌++◌, None, Some, refl, replicate}
use Rattle.pdc_cfg.specs.Section.{SectionFields}
use Rattle.pdc_life.specs.Arrival.{Layout, Stamp}
use Rattle.pdc_life.specs.Answer.{bare}
use Rattle.pdc_life.specs.Life.{Arrive, Entry, Pop}
use Rattle.pdc_life.specs.declared.outcome.Outcome.TheVariants.{Candidate, Refused}
use Rattle.pdc_life.specs.declared.outcome.Refusal.TheVariants.{OldStamp, OtherStamp, WrongLength}
use Rattle.pdc_merge.specs.Cells.{data_refusal}
use Rattle.pdc_core.specs.Fits.{are_placed}
use Rattle.pdc_merge.specs.Held.{LayoutView, held_section_of, layouts_of}

-- the layout of a node that adopted nothing: its stamp is (1, 1)
abbrev alone : LayoutView
alone = record { stamp = record { start = 1; change = 1 }; sections = [] }

-- an own block of zeros but for the stamp (1, change)
abbrev own_block : (change : ℕ) → List ℕ
own_block change = replicate 6 0 ++ (0 ∷ 0 ∷ 0 ∷ 1 ∷ 0 ∷ 0 ∷ 0 ∷ change ∷ [])

-- 13 bytes are too short for an own block, another stamp comes before another length, and the own block alone is read
short : data_refusal alone (replicate 13 0) ≡ Some WrongLength
short = refl

other : data_refusal alone (own_block 2 ++ (0 ∷ [])) ≡ Some OtherStamp
other = refl

long : data_refusal alone (own_block 1 ++ (0 ∷ [])) ≡ Some WrongLength
long = refl

read : data_refusal alone (own_block 1) ≡ None
read = refl

-- Of three layouts of node A the accepted one is held: what is known or old does not count.
abbrev from_a : Stamp → List (ℕ × SectionFields) → Entry
from_a stamp parts = Arrive 0 [] (Layout (Some stamp) parts) (bare Candidate)

held : (s : SectionFields)
    → layouts_of (Pop None ∷ Arrive 0 [] (Layout (Some (record { start = 1; change = 0 })) []) (bare (Refused OldStamp)) ∷ from_a (record { start = 1; change = 1 }) ((0, s) ∷ []) ∷ [])
    ≡ record { first = Some (record { stamp = record { start = 1; change = 1 }; sections = held_section_of (0, s) ∷ [] }); second = None }
held s = refl

-- the columns 0 and 1 rise within 2, and 1 and 0 do not
rising : (s : SectionFields) → are_placed 2 0 ((0, s) ∷ (1, s) ∷ []) ≡ true
rising s = refl

falling : (s : SectionFields) → are_placed 2 0 ((1, s) ∷ (0, s) ∷ []) ≡ false
falling s = refl
