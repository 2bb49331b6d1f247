use Rattle.std.proofs.Common.{arith}
use Rattle.pdc_network.proofs.Handing.{whole, lost}
use Rattle.pdc_network.proofs.udp_sink.UdpSinkSink.send.Goals as goal

pub returns-in-Ok-clause-ok : goal.returns-in-Ok-clause-ok
returns-in-Ok-clause-ok g c before given has =
    whole g.S.SendTo.sent before.destination c.args.self.now.destination c.send.new.self before.failures c.args.self.now.failures given c.args.bytes.now c.in-Ok.field-0 has
    (c.in-Ok.ensures.tells before.destination has.hands has.handed)

pub returns-in-Err-clause-err : goal.returns-in-Err-clause-err
returns-in-Err-clause-err g c before given has =
    lost g.S.SendTo.sent before.destination c.args.self.now.destination c.send.new.self before.failures c.args.self.now.failures c.saturating_add-self.result given c.args.bytes.now c.in-Err.field-0 has
    (omega (arith, c.saturating_add-self.ensures)) (c.in-Err.ensures.tells before.destination has.hands has.handed)
