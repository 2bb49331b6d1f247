use Rattle.std.proofs.Common.{ap}
use Rattle.std.specs.Prelude.{option_map}
use Rattle.pdc_session.specs.Counting.{inner_of}
use Rattle.pdc_network.specs.Linked.{stream_of}
use Rattle.pdc_network.proofs.Connecting.{fails_to_open, opens}
use Rattle.pdc_network.proofs.connection.Connection.open.Goals as goal

pub returns-in-Err-ask-clause-tells : goal.returns-in-Err-ask-clause-tells
returns-in-Err-ask-clause-tells g c =
    fails_to_open g.D.Dial.dialed g.D.Stream.Read.remaining g.D.Stream.Write.contents c.args.self.now.id.value c.args.self.now.dialer c.dial.new.self (stream_of c.args.self.now)
    c.args.self.now.framer c.args.self.now.unread c.current.result c.in-Ok.stream (inner_of c.new-stream.result) (inner_of c.ask.new.stream) (ap (option_map inner_of) c.requires)
    c.in-Ok.ensures.tells c.new-stream.ensures.inner c.ask.ensures.runs c.let_go.ensures

pub returns-in_default-new-clause-tells : goal.returns-in_default-new-clause-tells
returns-in_default-new-clause-tells g c =
    fails_to_open g.D.Dial.dialed g.D.Stream.Read.remaining g.D.Stream.Write.contents c.args.self.now.id.value c.args.self.now.dialer c.dial.new.self (stream_of c.args.self.now)
    c.args.self.now.framer c.args.self.now.unread c.current.result c.in-Ok.stream (inner_of c.new-stream.result) (inner_of c.ask.new.stream) (ap (option_map inner_of) c.requires)
    c.in-Ok.ensures.tells c.new-stream.ensures.inner c.ask.ensures.runs c.let_go-in_default-new.ensures

pub returns-in_default-new-2-clause-tells : goal.returns-in_default-new-2-clause-tells
returns-in_default-new-2-clause-tells g c =
    fails_to_open g.D.Dial.dialed g.D.Stream.Read.remaining g.D.Stream.Write.contents c.args.self.now.id.value c.args.self.now.dialer c.dial.new.self (stream_of c.args.self.now)
    c.args.self.now.framer c.args.self.now.unread c.current.result c.in-Ok.stream (inner_of c.new-stream.result) (inner_of c.ask.new.stream) (ap (option_map inner_of) c.requires)
    c.in-Ok.ensures.tells c.new-stream.ensures.inner c.ask.ensures.runs c.let_go-in_default-new-2.ensures

pub returns-clause-tells : goal.returns-clause-tells
returns-clause-tells g c =
    opens g.D.Dial.dialed g.D.Stream.Read.remaining g.D.Stream.Write.contents c.args.self.now.id.value c.args.self.now.dialer c.dial.new.self (stream_of c.args.self.now)
    c.args.self.now.framer _ c.args.self.now.unread _ c.current.result c.in-Ok.stream (inner_of c.new-stream.result) (inner_of c.ask.new.stream) (ap (option_map inner_of) c.requires)
    c.in-Ok.ensures.tells c.new-stream.ensures.inner c.ask.ensures.runs c.in-Ok-new.ensures.stream c.in-Ok-new-2.ensures.none
