use Rattle.pdc_server.specs.Remembering.{Memory, WasFound, WasLeft, memory_of}
use Rattle.pdc_server.proofs.Pushes.{where_ok}
use Rattle.pdc_server.proofs.recent.Recent.keep_layout.Goals as goal

found : (memory : Memory) → WasFound memory
unfolding WasFound
found memory = tt

left : (memory : Memory) → WasLeft memory
unfolding WasLeft
left memory = tt

pub returns-clause-kept : goal.returns-clause-kept
returns-clause-kept g c = where_ok c.keep_layout.result (λ laid. (memory_of c.deref_mut.result.now, memory_of c.keep_layout.new.self, found _, left _, laid)) c.keep_layout.ensures.laid
