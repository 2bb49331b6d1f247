-- What contracts see of what lives begin with and of held layouts, wherever they lie in memory, and which lives they are.
use Rattle.std.specs.Prelude.{List, map}
use Rattle.pdc_arrival.specs.Views.{section_part, stamp_view}
use Rattle.pdc_plain.specs.declared.held_layout.HeldLayout.{HeldLayout as LayoutData}
use Rattle.pdc_plain.specs.declared.opening.Opening.{Opening}
use Rattle.pdc_life.specs.Answer.{Step}
use Rattle.pdc_life.specs.CoreKind.{CoreKind, given_of}
use Rattle.pdc_life.specs.Given.{Given}
use Rattle.pdc_life.specs.Life.{Entry}
use Rattle.pdc_life.specs.Merger.{HeldLayout}
use Rattle.pdc_life.specs.OneLife.{HasSteps}

-- what is given to a life of a node or of the merger that begins with this
abbrev pub given_to : CoreKind → Opening → Given
given_to kind opening = given_of kind opening.start opening.floor opening.counts opening.first_now

abbrev pub layout_view : LayoutData → HeldLayout
layout_view l = record { stamp = stamp_view l.stamp; sections = map section_part l.sections.now }

-- The entries are the life that begins with this and takes these steps.
abbrev pub IsLifeFrom : CoreKind → Opening → List Step → List Entry → Type 0
IsLifeFrom kind opening steps E = HasSteps kind (given_to kind opening) steps E
