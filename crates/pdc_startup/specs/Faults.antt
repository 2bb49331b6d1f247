-- By which faults each step of a startup ends, in their order.
use Rattle.pdc_hub.specs.declared.fault.HubFault.TheVariants.{NoMemory}
use Rattle.pdc_startup.specs.declared.fault.LoadFault.{LoadFault}
use Rattle.pdc_startup.specs.declared.fault.LoadFault.TheVariants.{Refused}
use Rattle.pdc_startup.specs.declared.fault.ServiceFault.{ServiceFault}
use Rattle.pdc_startup.specs.declared.fault.ServiceFault.TheVariants.{Settings, MarkUnopened, MarkInUse, Mark, Port, Output, Input, Record, Run, Clock}

-- the settings, once their file is read
abbrev pub IsOfSettings : LoadFault → Type 0
IsOfSettings (Refused fault) = Unit {0}
IsOfSettings _ = ⊥

-- the settings: their file, and what it says
abbrev pub IsOfFile : ServiceFault → Type 0
IsOfFile (Settings fault) = Unit {0}
IsOfFile _ = ⊥

-- the mark: its file, what stands in it, and its next start
abbrev pub IsOfMark : ServiceFault → Type 0
IsOfMark (MarkUnopened error) = Unit {0}
IsOfMark MarkInUse = Unit {0}
IsOfMark (Mark fault) = Unit {0}
IsOfMark _ = ⊥

-- the first file of the record
abbrev pub IsOfRecord : ServiceFault → Type 0
IsOfRecord (Record error) = Unit {0}
IsOfRecord _ = ⊥

-- the sources: a port, or a place where a stream is asked for
abbrev pub IsOfSources : ServiceFault → Type 0
IsOfSources (Port at error) = Unit {0}
IsOfSources (Input id error) = Unit {0}
IsOfSources (Run NoMemory) = Unit {0}
IsOfSources _ = ⊥

-- where frames go: the port of the loopback, and the further destinations
abbrev pub IsOfSink : ServiceFault → Type 0
IsOfSink (Port at error) = Unit {0}
IsOfSink (Output number error) = Unit {0}
IsOfSink (Run NoMemory) = Unit {0}
IsOfSink _ = ⊥

-- a listener
abbrev pub IsOfListener : ServiceFault → Type 0
IsOfListener (Port at error) = Unit {0}
IsOfListener _ = ⊥

-- the run: one of its parts, or the clock
abbrev pub IsOfRun : ServiceFault → Type 0
IsOfRun (Run fault) = Unit {0}
IsOfRun Clock = Unit {0}
IsOfRun _ = ⊥
