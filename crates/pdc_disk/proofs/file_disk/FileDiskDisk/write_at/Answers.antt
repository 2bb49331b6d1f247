use Rattle.pdc_disk.specs.MemoryDisk as memory
use Rattle.pdc_disk.proofs.Bytes.{torn_known}
use Rattle.pdc_disk.proofs.file_disk.FileDiskDisk.write_at.Goals as goal

pub returns-clause-torn : goal.returns-clause-torn
returns-clause-torn c =
    let disk = c.args.self.now in
    let made = rw c.unwrap.ensures at c.write_at.ensures.written in
    torn_known (memory.seen_of disk.known) disk.untold c.args.at c.args.bytes.now _ (c.ends_within.ensures.0 c.if-not-ends_within.false) disk.full c.requires made

pub returns-then-is_err-clause-torn : goal.returns-then-is_err-clause-torn
returns-then-is_err-clause-torn c =
    let disk = c.args.self.now in
    let made = rw c.unwrap.ensures at c.write_at.ensures.written in
    torn_known (memory.seen_of disk.known) disk.untold c.args.at c.args.bytes.now _ (c.ends_within.ensures.0 c.if-not-ends_within.false) disk.full c.requires made
