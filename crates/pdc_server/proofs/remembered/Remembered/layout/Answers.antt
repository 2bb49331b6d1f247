use Rattle.std.proofs.Common.{rules}
use Rattle.pdc_server.proofs.remembered.Remembered.layout.Goals as goal

pub returns-clause-frame : goal.returns-clause-frame
returns-clause-frame g c = (c.args.self.now.layout.items, c.args.self.now.is_layout, search rules)
