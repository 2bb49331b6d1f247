-- By which faults the opening of each ends.
use Rattle.pdc_sockets.specs.declared.fault.OpenFault.{OpenFault}
use Rattle.pdc_sockets.specs.declared.fault.OpenFault.TheVariants.{Port, Output, Input, NoMemory}

-- the links: a port, or a place where a stream is asked for
abbrev pub IsOfLinks : OpenFault → Type 0
IsOfLinks (Port at error) = Unit {0}
IsOfLinks (Output number error) = ⊥
IsOfLinks (Input id error) = Unit {0}
IsOfLinks NoMemory = Unit {0}

-- where frames go: the port of the loopback, and the further destinations
abbrev pub IsOfOutputs : OpenFault → Type 0
IsOfOutputs (Port at error) = Unit {0}
IsOfOutputs (Output number error) = Unit {0}
IsOfOutputs (Input id error) = ⊥
IsOfOutputs NoMemory = Unit {0}

-- a listener
abbrev pub IsOfPort : OpenFault → Type 0
IsOfPort (Port at error) = Unit {0}
IsOfPort (Output number error) = ⊥
IsOfPort (Input id error) = ⊥
IsOfPort NoMemory = ⊥
