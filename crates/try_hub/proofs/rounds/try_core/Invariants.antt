use Rattle.std.proofs.Common.{Some}
use Rattle.try_hub.proofs.rounds.try_core.Given as goal

abbrev pub ghosts-side_by_side-N-Naming : goal.ghosts-side_by_side-N-Naming
ghosts-side_by_side-N-Naming g a = record { given = Some (g.C.Opens.given_with (g.C.Core.settings_of a.base) 1 0 a.counts.now); settings = Some (g.C.Core.settings_of a.base) }

abbrev pub ghosts-side_by_side-N-Ledgers : goal.ghosts-side_by_side-N-Ledgers
ghosts-side_by_side-N-Ledgers g a = record {
  taken = record { name = a.blanks.taken.name; parts = 1 };
  refused = record { name = a.blanks.refused.name; parts = 1 };
  configured = record { name = a.blanks.configured.name; parts = 1 };
  top = record { name = a.blanks.top.name; parts = 1 };
  turns = record { name = a.blanks.turns.name; parts = 1 };
}

abbrev pub ghosts-side_by_side-N-Logged : goal.ghosts-side_by_side-N-Logged
ghosts-side_by_side-N-Logged g a = record { book = a.blanks.log.seen.book }
