use Rattle.pdc_server.specs.Stream.{stream_of}
use Rattle.pdc_startup.specs.pdc_sockets.Concentrator.{output_of}
use Rattle.pdc_service.proofs.serving.run_serving.Given as goal

abbrev pub ghosts-run_named-N-Naming : goal.ghosts-run_named-N-Naming
ghosts-run_named-N-Naming g a = record { stream = stream_of (output_of a.serving.now.concentrator.now) }

abbrev pub ghosts-run_named-N-Rated : goal.ghosts-run_named-N-Rated
ghosts-run_named-N-Rated g a = record { rate = (output_of a.serving.now.concentrator.now).rate }
