-- What is known of the frame in which blocks came.
use Rattle.std.specs.Prelude.{if◌then◌else◌, None, Option, Some}
use Rattle.pdc_block.specs.declared.CheckedFront.{CheckedFront}
use Rattle.pdc_row.specs.declared.known_front.KnownFront.{KnownFront}

-- its front and its check word, if they are known
abbrev pub known_of : KnownFront → Option CheckedFront
known_of k = if k.is_known then Some k.front else None
