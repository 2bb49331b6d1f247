use Rattle.std.proofs.Common.{Some}
use Rattle.try_hub.proofs.life.record_life.Given as goal

abbrev pub ghosts-live_on-N-Naming : goal.ghosts-live_on-N-Naming
ghosts-live_on-N-Naming g a = record { given = Some (g.C.Opens.given_with a.opened.settings.now 1 0 a.opened.counts); settings = Some a.opened.settings.now }

abbrev pub ghosts-live_on-N-Ledgers : goal.ghosts-live_on-N-Ledgers
ghosts-live_on-N-Ledgers g a = record {
  taken = record { name = a.blanks.taken.name; parts = 1 };
  refused = record { name = a.blanks.refused.name; parts = 1 };
  configured = record { name = a.blanks.configured.name; parts = 1 };
  top = record { name = a.blanks.top.name; parts = 1 };
  turns = record { name = a.blanks.turns.name; parts = 1 };
}

abbrev pub ghosts-live_on-N-Logged : goal.ghosts-live_on-N-Logged
ghosts-live_on-N-Logged g a = record { book = a.blanks.log.seen.book }
