use Rattle.std.proofs.Common.{Some}
use Rattle.pdc_publisher.specs.Publisher.{last_in}
use Rattle.pdc_service.proofs.running_concentrator.run_begun.Given as goal

abbrev pub ghosts-opened-N-Naming : goal.ghosts-opened-N-Naming
ghosts-opened-N-Naming g a = record {
  given = Some (g.C.Opens.given_with a.settings.now a.first.start (last_in a.ready.publisher) a.first.counts);
  settings = Some a.settings.now;
}

abbrev pub ghosts-opened-N-Ledgers : goal.ghosts-opened-N-Ledgers
ghosts-opened-N-Ledgers g a = record {
  taken = record { name = a.blanks.taken.name; parts = a.blanks.taken.parts };
  refused = record { name = a.blanks.refused.name; parts = a.blanks.refused.parts };
  configured = record { name = a.blanks.configured.name; parts = a.blanks.configured.parts };
  top = record { name = a.blanks.top.name; parts = a.blanks.top.parts };
  turns = record { name = a.blanks.turns.name; parts = a.blanks.turns.parts };
}

abbrev pub ghosts-opened-N-Logged : goal.ghosts-opened-N-Logged
ghosts-opened-N-Logged g a = record { book = a.blanks.log.seen.book }
