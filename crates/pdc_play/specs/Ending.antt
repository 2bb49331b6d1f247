-- How a script ends, and with which exit status.
use Rattle.std.specs.Prelude.{ℕ}
use Rattle.pdc_history.specs.declared.event_fault.Fault.TheVariants as fault
use Rattle.pdc_play.specs.declared.ending.Ending.{Ending}
use Rattle.pdc_play.specs.declared.ending.Ending.TheVariants.{Played, NotAnEvent, Refused}

-- 0 where each line was played, 3 where memory was wanted, else 1
abbrev pub status_of : Ending → ℕ
status_of Played = 0
status_of NotAnEvent = 1
status_of (Refused fault.NoMemory) = 3
status_of (Refused cause) = 1
