use Rattle.std.proofs.Common.{rules}
use Rattle.pdc_aligner.proofs.Sequences.{put_layout}
use Rattle.pdc_aligner.proofs.layouts.put_layout.Goals as goal

pub returns-clause-instants : goal.returns-clause-instants
returns-clause-instants g c = put_layout _ _ _ (c.put.ensures.put c.if-not-put.false)

pub returns-clause-layout : goal.returns-clause-layout
returns-clause-layout g c = (c.in-Ok.frame, c.put.ensures.put c.if-not-put.false, search (rules, c.in-Ok.ensures))
