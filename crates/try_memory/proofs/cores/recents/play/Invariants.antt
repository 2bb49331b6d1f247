use Rattle.pdc_server.specs.Stream.{stream_of}
use Rattle.try_memory.proofs.cores.recents.play.Given as goal

abbrev pub ghosts-play_named : goal.ghosts-play_named
ghosts-play_named g a = record { stream = stream_of a.output.now }
