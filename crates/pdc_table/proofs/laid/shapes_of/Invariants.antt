use Rattle.std.proofs.Common.{◌≡◌, map, take}
use Rattle.pdc_table.proofs.laid.shapes_of.Given as goal

-- those of the parts so far
abbrev pub invariant-loop-part : goal.invariant-loop-part
invariant-loop-part g l = l.shapes ≡ map g.P.Part.shape_of (take l.part-index l.parts)
