-- How datagrams were answered.
use Rattle.std.specs.Prelude.{Option}
use Rattle.pdc_arrival.specs.pdc_life.declared.outcome.Outcome.{Outcome}
use Rattle.pdc_ports.specs.declared.numbered.Numbered.{Numbered}

-- the answer to a datagram, with the number of its step; none where it was not answered
abbrev pub Answer : Type 0
Answer = Option (Numbered Outcome)
