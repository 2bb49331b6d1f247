use Rattle.std.proofs.Common.{◌≡◌}
use Rattle.try_hub.specs.Mine.{IsFit}
use Rattle.try_hub.proofs.rounds.side_by_side.Given as goal

abbrev pub invariant-loop-after : goal.invariant-loop-after
invariant-loop-after g l = (g.C.Core.settings_of l.mine.bare ≡ g.C.Core.settings_of l.fn.base) × IsFit l.mine g.N.Ledgers.top.parts g.N.Ledgers.turns.parts
