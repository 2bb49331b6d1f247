use Rattle.std.proofs.Common.{rules}
use Rattle.try_hub.proofs.life.live_on.Goals as goal

pub new-requires-clause-alike : goal.new-requires-clause-alike
new-requires-clause-alike g c = (
  g.C.Opens.given_with c.args.opened.settings.now 1 0 c.args.opened.counts,
  c.requires.given,
  c.requires.stands,
  search rules,
)
