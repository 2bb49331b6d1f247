use Rattle.pdc_server.specs.Stream.{stream_of}
use Rattle.try_service.proofs.node.play.Given as goal

abbrev pub ghosts-play_named : goal.ghosts-play_named
ghosts-play_named g a = record { stream = stream_of a.settings.now.output }
