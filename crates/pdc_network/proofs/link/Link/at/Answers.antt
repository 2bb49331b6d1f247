use Rattle.pdc_network.specs.Linked.{IsHeardBy}
use Rattle.pdc_network.specs.declared.way.Way.TheVariants.{Datagrams}
use Rattle.pdc_network.proofs.Passing.{passes_all}
use Rattle.pdc_network.proofs.link.Link.at.Goals as goal

pub returns-clause-tells : goal.returns-clause-tells
returns-clause-tells g c heard has =
    passes_all (IsHeardBy g.S.Receive.received g.D.Dial.dialed g.D.Stream.Read.remaining g.D.Stream.Write.contents (Datagrams c.args.port)) heard has
