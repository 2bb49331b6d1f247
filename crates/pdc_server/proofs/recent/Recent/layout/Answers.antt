use Rattle.pdc_server.specs.Remembering.{Memory, WasFound, memory_of}
use Rattle.pdc_server.proofs.Pushes.{if_both}
use Rattle.pdc_server.proofs.recent.Recent.layout.Goals as goal

found : (memory : Memory) → WasFound memory
unfolding WasFound
found memory = tt

pub returns-clause-kept : goal.returns-clause-kept
returns-clause-kept g c = if_both c.layout.result (λ stamp same appended. (memory_of c.deref.result.now, found _, (same, appended))) c.layout.ensures.stamp c.layout.ensures.ok
