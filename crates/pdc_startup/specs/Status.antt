-- The exit status that each fault gives: 1 where settings or mark are refused, 3 where a device failed or memory ran out.
use Rattle.std.specs.Prelude.{ℕ}
use Rattle.pdc_mark.specs.declared.fault.MarkFault.TheVariants.{NoMark, Damaged, OtherOwner, Device, StartsUsedUp, OldMark}
use Rattle.pdc_settings.specs.declared.fault.SettingsFault.TheVariants.{Toml, Range, DoubledId, NoMemory}
use Rattle.pdc_startup.specs.declared.fault.LoadFault.{LoadFault}
use Rattle.pdc_startup.specs.declared.fault.LoadFault.TheVariants.{Unread, Refused}
use Rattle.pdc_startup.specs.declared.fault.ServiceFault.{ServiceFault}
use Rattle.pdc_startup.specs.declared.fault.ServiceFault.TheVariants.{Settings, MarkUnopened, MarkInUse, Mark, Port, Output, Input, Record, Run, Clock}

-- of a settings file
abbrev pub status_of_load : LoadFault → ℕ
status_of_load (Unread error) = 3
status_of_load (Refused Toml) = 1
status_of_load (Refused (Range wanted)) = 1
status_of_load (Refused DoubledId) = 1
status_of_load (Refused NoMemory) = 3

-- of a node or the merger
abbrev pub status_of : ServiceFault → ℕ
status_of (Settings fault) = status_of_load fault
status_of (MarkUnopened error) = 3
status_of MarkInUse = 3
status_of (Mark NoMark) = 1
status_of (Mark Damaged) = 1
status_of (Mark OtherOwner) = 1
status_of (Mark Device) = 3
status_of (Mark StartsUsedUp) = 1
status_of (Mark OldMark) = 1
status_of (Port port error) = 3
status_of (Output number error) = 3
status_of (Input id error) = 3
status_of (Record error) = 3
status_of (Run fault) = 3
status_of Clock = 3
