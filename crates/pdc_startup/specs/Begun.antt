-- A mark that has begun.
use Rattle.pdc_startup.specs.declared.begun.Begun.{Begun}

-- the mark, with the stored start of this life
abbrev pub begun_mark : {M : Type 0} → Begun M → M
begun_mark begun = begun.mark
