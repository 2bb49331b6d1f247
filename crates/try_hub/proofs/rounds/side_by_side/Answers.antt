use Rattle.std.proofs.Common.{rules}
use Rattle.try_hub.proofs.rounds.side_by_side.Goals as goal

pub new-requires-clause-alike : goal.new-requires-clause-alike
new-requires-clause-alike g c = (
  g.C.Opens.given_with (g.C.Core.settings_of c.args.base) 1 0 c.args.counts.now,
  c.requires.given,
  c.requires.stands,
  search rules,
)
