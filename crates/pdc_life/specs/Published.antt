-- What a life publishes.
use Rattle.pdc_life.specs.Names.{filter_map, layout_wire_of, List, map, SectionFields, wire_of, ℕ}
use Rattle.pdc_life.specs.Given.{Given, columns_of}
use Rattle.pdc_life.specs.Life.{Entry, changes, section_in_force, popped}

-- What a life published: the rows that pops gave, the first to be given first.
abbrev pub published : Given → List Entry → List (List ℕ)
published g E = map (wire_of g.output) (popped E)

-- The sections in force after a life, in the order of the columns.
abbrev pub sections_in_force : Given → List Entry → List SectionFields
sections_in_force g E = filter_map (section_in_force g E) (columns_of g)

-- The bytes of the layout after a life.
abbrev pub layout_wire : Given → List Entry → (soc : ℕ) → List ℕ
layout_wire g E soc = layout_wire_of g.output g.start (changes E) (sections_in_force g E) soc
