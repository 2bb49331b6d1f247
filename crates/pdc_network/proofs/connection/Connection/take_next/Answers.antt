use Rattle.std.proofs.Common.{ap}
use Rattle.std.specs.Prelude.{option_map}
use Rattle.pdc_session.specs.Counting.{inner_of}
use Rattle.pdc_network.specs.Came.{frames_in}
use Rattle.pdc_network.specs.Linked.{stream_of}
use Rattle.pdc_network.proofs.Connecting.{goes_on}
use Rattle.pdc_network.proofs.connection.Connection.take_next.Goals as goal

pub returns-in-Some-clause-tells : goal.returns-in-Some-clause-tells
returns-in-Some-clause-tells g c =
    goes_on g.D.Dial.dialed g.D.Stream.Read.remaining g.D.Stream.Write.contents c.args.self.now.id.value c.args.self.now.dialer (stream_of c.args.self.now)
    (inner_of c.in-Some.stream) (inner_of c.take.new.stream) c.args.self.now.framer c.take.new.framer c.args.self.now.unread c.take.new.unread (frames_in c.take.result c.take.new.buffer)
    (ap (option_map inner_of) c.in-Some.is) (c.take.ensures.runs c.args.self.now.id.value)
