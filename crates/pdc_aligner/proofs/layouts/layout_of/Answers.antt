use Rattle.std.proofs.Common.{rules}
use Rattle.pdc_aligner.proofs.Rates.{behind_none, of_some}
use Rattle.pdc_aligner.proofs.layouts.layout_of.Goals as goal

pub invariant_of-result : goal.invariant_of-result
invariant_of-result g c = record {
  of_some_layout = of_some g.C.Core.rules g.N.Naming.given c.layout.new.pops.front c.args.soc c.new-bytes.result.items c.layout.new.out.items (search rules) (search rules);
}

pub returns-clause-layout : goal.returns-clause-layout
returns-clause-layout g c = behind_none g.C.Core.rules g.N.Naming.given c.layout.new.pops.front c.args.soc c.new-bytes.result.items c.layout.new.out.items (search rules) (search rules)
