use denote.Text.{Utf8}
use denote.Shadow.{shadow}
use Rattle.pdc_check.proofs.reading.port_of.Given as goal

-- the part is text
abbrev pub invariant-loop-part : goal.invariant-loop-part
invariant-loop-part l = shadow (Utf8 l.port)
