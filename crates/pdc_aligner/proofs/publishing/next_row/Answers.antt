use Rattle.pdc_aligner.proofs.Rates.{all_tagged}
use Rattle.pdc_aligner.proofs.Ticking.{pop_ticks}
use Rattle.pdc_publisher.specs.Publisher.{output_in}
use Rattle.pdc_aligner.proofs.publishing.next_row.Goals as goal

pub returns-clause-tagged : goal.returns-clause-tagged
returns-clause-tagged g c is =
    all_tagged g.C.Core.rules g.N.Naming.given c.args.pops.now.front c.pop.new.pops.front c.pop.result.step _ (output_in c.args.publisher.now).rate c.pop.new.pops.row.value.instant c.pop.ensures.turned (c.pop.ensures.tagged is) c.requires.rate

pub returns-clause-ticks : goal.returns-clause-ticks
returns-clause-ticks g c = pop_ticks g.C.Core.rules g.N.Naming.given c.args.pops.now.front c.pop.new.pops.front c.pop.result.step _ c.pop.ensures.turned
