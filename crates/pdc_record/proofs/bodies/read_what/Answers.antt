use Rattle.std.proofs.Common.{length, ap, arith}
use Rattle.pdc_record.specs.Told.{Told}
use Rattle.pdc_record.specs.Bodies.{rest_of}
use Rattle.pdc_record.proofs.Sayings.{one_told}
use Rattle.pdc_record.proofs.bodies.read_what.Goals as goal

pub returns-then-rest_of-gt-MAX_REST : goal.returns-then-rest_of-gt-MAX_REST
returns-then-rest_of-gt-MAX_REST c = λ told h small.
    let same = one_told c.args.kind c.args.body.now told _ h c.in_ok-what.ensures in
    absurd (omega (arith, small, ap (λ (t : Told). length (rest_of t)) same, ap length c.rest_of.ensures, c.if-rest_of-gt-MAX_REST.true))
