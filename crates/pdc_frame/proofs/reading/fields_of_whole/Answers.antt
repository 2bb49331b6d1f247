use Rattle.std.proofs.Common.{arith, sym, subst}
use Rattle.pdc_frame.specs.Frame.{IsFrame}
use Rattle.pdc_frame.proofs.Wholes.{whole-fields}
use Rattle.pdc_frame.proofs.reading.fields_of_whole.Goals as goal

pub returns : goal.returns
returns c = subst (IsFrame c.args.bytes.now) (sym c.fields_in_places.ensures)
    (whole-fields c.args.bytes.now c.in-Some.kind c.in-Some.version (λ i. omega (arith, c.type_inv.bytes i)) c.requires c.in-Some.ensures.0 c.in-Some.ensures.2)
