use Rattle.std.proofs.Common.{Some}
use Rattle.pdc_life.specs.CoreKind.{given_of, OfNode}
use Rattle.bench_running.specs.declared.frames.TheConstants.{FLOOR}
use Rattle.bench_running.proofs.recorded.open_and_record.Given as goal

-- the life that is recorded, and its settings
abbrev pub ghosts-record_all-N-Naming : goal.ghosts-record_all-N-Naming
ghosts-record_all-N-Naming g a = record { given = Some (given_of (OfNode a.settings.now) 1 FLOOR a.counts.now 0); settings = Some a.settings.now }

abbrev pub ghosts-record_all-N-Logged : goal.ghosts-record_all-N-Logged
ghosts-record_all-N-Logged g a = record { book = a.log.seen.book }
