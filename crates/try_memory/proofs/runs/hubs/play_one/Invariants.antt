use Rattle.std.proofs.Common.{Some}
use Rattle.pdc_life.specs.CoreKind.{given_of, OfNode}
use Rattle.try_memory.proofs.runs.hubs.play_one.Given as goal

abbrev pub ghosts-play_on-N-Naming : goal.ghosts-play_on-N-Naming
ghosts-play_on-N-Naming g a = record { given = Some (given_of (OfNode a.opened.settings.now) 1 0 a.opened.counts 0); settings = Some a.opened.settings.now }

abbrev pub ghosts-play_on-N-Ledgers : goal.ghosts-play_on-N-Ledgers
ghosts-play_on-N-Ledgers g a = record {
  taken = record { name = a.blanks.taken.name; parts = 1 };
  refused = record { name = a.blanks.refused.name; parts = 1 };
  configured = record { name = a.blanks.configured.name; parts = 1 };
  top = record { name = a.blanks.top.name; parts = 1 };
  turns = record { name = a.blanks.turns.name; parts = 1 };
}

abbrev pub ghosts-play_on-N-Logged : goal.ghosts-play_on-N-Logged
ghosts-play_on-N-Logged g a = record { book = a.blanks.log.seen.book }
