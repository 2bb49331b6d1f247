-- What a run wanted and did not get.
use Rattle.std.specs.Prelude.{◌⊎◌}
use Rattle.pdc_hub.specs.pdc_memory.Asking.{SomeWasRefused}

-- In this call the system was asked for a thread, or the library of channels for a channel, and gave none. No proof but that of a function that
-- asks can say so.
unfoldable pub WasDenied : Type 0
WasDenied = Unit {0}

-- In this call, or in one of its threads, a request for memory was refused, or a thread or the channel was not given.
abbrev pub LackedRoom : Type 0
LackedRoom = SomeWasRefused ⊎ WasDenied
