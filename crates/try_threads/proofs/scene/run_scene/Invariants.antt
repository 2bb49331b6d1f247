use Rattle.std.proofs.Common.{Some}
use Rattle.pdc_life.specs.CoreKind.{given_of, OfNode}
use Rattle.try_threads.proofs.scene.run_scene.Given as goal

abbrev pub ghosts-opened-N-Naming : goal.ghosts-opened-N-Naming
ghosts-opened-N-Naming g a = record { given = Some (given_of (OfNode a.settings.now) a.stage.start 0 a.stage.counts 0); settings = Some a.settings.now }

abbrev pub ghosts-opened-N-Ledgers : goal.ghosts-opened-N-Ledgers
ghosts-opened-N-Ledgers g a = record {
  taken = record { name = a.blanks.taken.name; parts = 3 };
  refused = record { name = a.blanks.refused.name; parts = 3 };
  configured = record { name = a.blanks.configured.name; parts = 3 };
  top = record { name = a.blanks.top.name; parts = 1 };
  turns = record { name = a.blanks.turns.name; parts = 1 };
}

abbrev pub ghosts-opened-N-Logged : goal.ghosts-opened-N-Logged
ghosts-opened-N-Logged g a = record { book = a.blanks.log.seen.book }
