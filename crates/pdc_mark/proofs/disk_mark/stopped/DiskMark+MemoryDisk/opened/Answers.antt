use Rattle.std.proofs.Common.{false, ◌≡◌, rules}
use Rattle.pdc_mark.proofs.disk_mark.stopped.DiskMark+MemoryDisk.opened.Goals as goal

pub returns-clause-settled : goal.returns-clause-settled
returns-clause-settled c =
    let mark = c.in-Ok.mark in
    let whole : mark.is_broken ≡ false = mark.whole (search rules) in
    (mark.stands whole).settled
