-- A front that is lent from where it lies.
use Rattle.std.specs.Prelude.{◌++◌}
use Rattle.pdc_words.specs.declared.fronts.CheckedFront.{CheckedFront}
use Rattle.pdc_words.specs.declared.fronts.LentFront.{LentFront}

-- the front and the check word that are lent: the own block stands behind the fields
abbrev pub front_of : LentFront → CheckedFront
front_of lent = record { bytes = lent.header.now ++ lent.own.now; check = lent.check }
