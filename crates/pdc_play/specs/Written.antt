-- What a line that was read asks.
use Rattle.std.specs.Prelude.{Option, Some, None}
use Rattle.pdc_history.specs.Handed.{asked_of, who_of}
use Rattle.pdc_history.specs.Asked.{Asked, Send, Junk}
use Rattle.pdc_play.specs.declared.written.Written.{Written}
use Rattle.pdc_play.specs.declared.written.Written.TheVariants as written

abbrev pub asked_in : Written → Asked
asked_in (written.Send bytes) = Send bytes.items
asked_in (written.Junk who bytes) = Junk (who_of who) bytes.items
asked_in (written.Other event) = asked_of event
