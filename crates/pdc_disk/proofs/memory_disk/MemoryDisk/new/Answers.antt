use Rattle.pdc_disk.proofs.Bytes.{get_or-replicate_true}
use Rattle.pdc_disk.proofs.memory_disk.MemoryDisk.new.Goals as goal

pub returns-clause-settled : goal.returns-clause-settled
returns-clause-settled c i = get_or-replicate_true 256 i
