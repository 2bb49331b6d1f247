use Rattle.std.proofs.Common.{rules, ◌≡◌, ◌++◌, ap}
use Rattle.crossbeam_channel.specs.Claims.{view}
use Rattle.pdc_pipe.specs.Sequence.{IsClosedBy}
use Rattle.pdc_pipe.proofs.Pipes.{merges, settled, totals}
use Rattle.pdc_pipe.proofs.ends.settle.Goals as goal

pub absorb-requires-clause-rule : goal.absorb-requires-clause-rule
absorb-requires-clause-rule g c = merges _ _ _ _ (ap (λ v. v.puts) c.args.writer.puts) c.requires.reader.1

pub learn_as-requires-clause-rule : goal.learn_as-requires-clause-rule
learn_as-requires-clause-rule g c = totals _ _ (search rules) (search rules)

pub returns-clause-handed : goal.returns-clause-handed
returns-clause-handed g c before h =
    let r = c.learn_as.ensures.rule in
    let same : (view c.args.writer.pass).put ≡ (view c.args.sent.pass).taken ++ r.0 = search (rules, r.1.0) in
    let shut : IsClosedBy (view c.args.writer.pass).closed (view c.args.writer.pass).put = search (rules, r.1.1) in
    settled (view c.args.writer.pass).closed (view c.args.writer.pass).put (view c.args.sent.pass).taken r.0 c.args.sent.ended same shut h
