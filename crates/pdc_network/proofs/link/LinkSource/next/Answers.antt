use Rattle.std.proofs.Common.{◌∷◌, ◌++◌, [], arith, refl, subst, sym}
use Rattle.pdc_ports.specs.Heard.{Idled, heard_by}
use Rattle.pdc_network.specs.Limit.{most_of}
use Rattle.pdc_network.specs.Linked.{IsHeardBy}
use Rattle.pdc_network.specs.Passing.{HasPassed}
use Rattle.pdc_network.proofs.Passing.{leaves_out, passes}
use Rattle.pdc_network.proofs.link.LinkSource.next.Goals as goal

pub returns-then-is_left_out-clause-tells : goal.returns-then-is_left_out-clause-tells
returns-then-is_left_out-clause-tells g c heard has =
    subst (λ most. HasPassed (IsHeardBy g.S.Receive.received g.D.Dial.dialed g.D.Stream.Read.remaining g.D.Stream.Write.contents c.next-next.new.self) most (heard ++ Idled ∷ [])) (sym c.is_left_out.ensures.same)
    (leaves_out (IsHeardBy g.S.Receive.received g.D.Dial.dialed g.D.Stream.Read.remaining g.D.Stream.Write.contents c.args.self.now.way) (IsHeardBy g.S.Receive.received g.D.Dial.dialed g.D.Stream.Read.remaining g.D.Stream.Write.contents c.next-next.new.self) (most_of c.args.self.now.limit) heard
    (heard_by c.next-next.result c.next-next.new.buffer) has c.next-next.ensures.tells (c.if-is_left_out.ensures.left refl))

pub returns-in-Datagram-clause-tells : goal.returns-in-Datagram-clause-tells
returns-in-Datagram-clause-tells g c heard has =
    subst (λ most. HasPassed (IsHeardBy g.S.Receive.received g.D.Dial.dialed g.D.Stream.Read.remaining g.D.Stream.Write.contents c.next-next.new.self) most (heard ++ heard_by c.next-next.result c.next-next.new.buffer ∷ [])) (sym c.is_left_out.ensures.same)
    (passes (IsHeardBy g.S.Receive.received g.D.Dial.dialed g.D.Stream.Read.remaining g.D.Stream.Write.contents c.args.self.now.way) (IsHeardBy g.S.Receive.received g.D.Dial.dialed g.D.Stream.Read.remaining g.D.Stream.Write.contents c.next-next.new.self) (most_of c.args.self.now.limit) heard
    (heard_by c.next-next.result c.next-next.new.buffer) has c.next-next.ensures.tells (c.if-is_left_out.ensures.stays refl))

pub returns-in-Fault-clause-tells : goal.returns-in-Fault-clause-tells
returns-in-Fault-clause-tells g c heard has =
    subst (λ most. HasPassed (IsHeardBy g.S.Receive.received g.D.Dial.dialed g.D.Stream.Read.remaining g.D.Stream.Write.contents c.next-next.new.self) most (heard ++ heard_by c.next-next.result c.next-next.new.buffer ∷ [])) (sym c.is_left_out.ensures.same)
    (passes (IsHeardBy g.S.Receive.received g.D.Dial.dialed g.D.Stream.Read.remaining g.D.Stream.Write.contents c.args.self.now.way) (IsHeardBy g.S.Receive.received g.D.Dial.dialed g.D.Stream.Read.remaining g.D.Stream.Write.contents c.next-next.new.self) (most_of c.args.self.now.limit) heard
    (heard_by c.next-next.result c.next-next.new.buffer) has c.next-next.ensures.tells (c.if-is_left_out.ensures.stays refl))

pub returns-in_default : goal.returns-in_default
returns-in_default g c = record {
  kept = c.next-next.ensures.kept;
  tells = λ heard has.
      subst (λ most. HasPassed (IsHeardBy g.S.Receive.received g.D.Dial.dialed g.D.Stream.Read.remaining g.D.Stream.Write.contents c.next-next.new.self) most (heard ++ heard_by c.next-next.result c.next-next.new.buffer ∷ [])) (sym c.is_left_out.ensures.same)
      (passes (IsHeardBy g.S.Receive.received g.D.Dial.dialed g.D.Stream.Read.remaining g.D.Stream.Write.contents c.args.self.now.way) (IsHeardBy g.S.Receive.received g.D.Dial.dialed g.D.Stream.Read.remaining g.D.Stream.Write.contents c.next-next.new.self) (most_of c.args.self.now.limit) heard
      (heard_by c.next-next.result c.next-next.new.buffer) has c.next-next.ensures.tells (c.if-is_left_out.ensures.stays refl));
  answers = λ before t. t;
  more = omega arith;
  datagram = c.next-next.ensures.datagram;
  row = λ n is. absurd (c.in_default.not-Datagram n is);
  fault = λ is. absurd (c.in_default.not-Fault is);
}
