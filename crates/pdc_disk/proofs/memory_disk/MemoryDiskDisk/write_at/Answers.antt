use Rattle.std.proofs.Common.{◌≤◌, ◌+◌, List, ℕ, length, take, subst, sym, ap, ◌∙◌, rules}
use Rattle.pdc_disk.proofs.Bytes.{take-written, IsTorn-written}
use Rattle.pdc_disk.specs.Disk.{IsTorn}
use Rattle.pdc_disk.specs.MemoryDisk.{seen_of}
use Rattle.pdc_disk.proofs.memory_disk.MemoryDiskDisk.write_at.Goals as goal

pub returns-clause-torn : goal.returns-clause-torn
returns-clause-torn c =
    let disk = c.args.self.now in
    let bytes = c.args.bytes.now in
    let low : c.args.at ≤ length (seen_of disk) = search rules in
    let fits : disk.len ≤ length disk.bytes = search rules in
    let room : c.args.at + length bytes ≤ length disk.bytes = search rules in
    let within : c.args.at ≤ disk.len = search (rules, low) in
    let seen = ap (λ n. take n c.overwrite.new.held) c.max-self.ensures ∙ ap (take _) c.overwrite.ensures ∙ take-written disk.len disk.bytes c.args.at bytes within fits room in
    subst (λ (new : List ℕ). IsTorn (seen_of disk) c.args.at (length bytes) new) (sym seen) (IsTorn-written (seen_of disk) c.args.at bytes low)
