use Rattle.std.proofs.Common.{ap, sym, ◌∙◌}
use Rattle.std.specs.Prelude.{option_map}
use Rattle.pdc_session.specs.Counting.{inner_of}
use Rattle.pdc_network.specs.Linked.{stream_of}
use Rattle.pdc_network.proofs.Connecting.{lets_go}
use Rattle.pdc_network.proofs.connection.Connection.part.Goals as goal

pub returns-in-Some : goal.returns-in-Some
returns-in-Some g c = record {
  tells = lets_go g.D.Dial.dialed g.D.Stream.Read.remaining g.D.Stream.Write.contents c.args.self.now.id.value c.args.self.now.dialer (stream_of c.args.self.now)
      (option_map inner_of c.take.new.self) (inner_of c.in-Some.stream) c.args.self.now.framer c.args.self.now.unread
      (ap (option_map inner_of) (sym c.take.ensures.value ∙ c.in-Some.is)) (ap (option_map inner_of) c.take.ensures.after) c.requires c.let_go.ensures;
}
