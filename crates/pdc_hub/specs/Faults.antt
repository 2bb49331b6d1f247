-- Why a delivery failed. For want of memory nothing fails but where a request was refused.
use Rattle.pdc_hub.specs.declared.fault.HubFault.{HubFault}
use Rattle.pdc_hub.specs.declared.fault.HubFault.TheVariants.{SinkFault, NoMemory, CountsUsedUp, Device}
use Rattle.pdc_memory.specs.Asking.{SomeWasRefused}

abbrev pub IsOfDelivery : HubFault → Type 0
IsOfDelivery NoMemory = SomeWasRefused
IsOfDelivery CountsUsedUp = Unit {0}
IsOfDelivery _ = ⊥

-- A receiver ends so by a fault: never by the sink's or the mark's, which it does not have.
abbrev pub IsOfReceiver : HubFault → Type 0
IsOfReceiver SinkFault = ⊥
IsOfReceiver Device = ⊥
IsOfReceiver NoMemory = SomeWasRefused
IsOfReceiver _ = Unit {0}
