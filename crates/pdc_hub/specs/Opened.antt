-- With what a hub begins.
use Rattle.std.specs.Prelude.{◌≡◌, ℕ, ◌<◌, [], Option, Some}
use Rattle.pdc_life.specs.Given.{Given}
use Rattle.pdc_hub.specs.Cut.{Cut}
use Rattle.pdc_hub.specs.Replay.{Lives}
use Rattle.pdc_hub.specs.declared.shares.Blanks.{Blanks}
use Rattle.pdc_hub.specs.declared.shares.Books.{Books}

-- Two cores were opened alike, with what is named, and have taken no step.
abbrev pub AreOpened : Option Given → (Base State : Lives) → Type 0
AreOpened named Base State = (g : Given) × (named ≡ Some g) × Base g [] × State g []

-- New ledgers have the names of these,
abbrev pub AreNamed : Blanks → (taken refused configured top turns : Cut) → Type 0
AreNamed blanks taken refused configured top turns =
    (blanks.taken.name ≡ taken.name) × (blanks.refused.name ≡ refused.name) × (blanks.configured.name ≡ configured.name) × (blanks.top.name ≡ top.name) × (blanks.turns.name ≡ turns.name)

-- and as many parts, the last two at least one.
abbrev pub AreCut : Blanks → (taken refused configured top turns : Cut) → Type 0
AreCut blanks taken refused configured top turns =
    (blanks.taken.parts ≡ taken.parts) × (blanks.refused.parts ≡ refused.parts) × (blanks.configured.parts ≡ configured.parts)
    × (blanks.top.parts ≡ top.parts) × (0 < top.parts) × (blanks.turns.parts ≡ turns.parts) × (0 < turns.parts)

-- The books have counted nothing, and the greatest instant is the floor.
abbrev pub AreBegun : {N : Type 0} → Books N → (floor : ℕ) → Type 0
AreBegun books floor =
    (books.taken.total ≡ 0) × (books.refused.total ≡ 0) × (books.configured.total ≡ 0) × (books.top.total ≡ floor) × (books.turns.total ≡ 0)
