-- What the aligner's end of the channel has put.
use Rattle.std.specs.Prelude.{◌≡◌, List, false}
use Rattle.crossbeam_channel.specs.Claims.{view}
use Rattle.pdc_pipe.specs.declared.message.Message.{Message}
use Rattle.pdc_pipe.specs.declared.writer.Writer.{Writer}

-- the messages that were put by it, in order
abbrev pub put_by : Writer → List Message
put_by writer = (view writer.pass).put

-- it has not put the end mark
abbrev pub IsOpen : Writer → Type 0
IsOpen writer = (view writer.pass).closed ≡ false

-- It is an end of the same channel, and has not put the end mark.
abbrev pub GoesOn : (before after : Writer) → Type 0
GoesOn before after = (after.to ≡ before.to) × IsOpen after
