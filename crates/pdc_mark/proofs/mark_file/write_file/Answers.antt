use Rattle.std.proofs.Common.{◌≤◌, ◌+◌, ◌∙◌, length, List, ℕ, ap, arith}
use Rattle.std.proofs.lemmas.Result.{on_ok_weaker}
use Rattle.pdc_disk.specs.Disk.{written}
use Rattle.pdc_mark.specs.declared.layout.TheConstants.{SLOT_LEN}
use Rattle.pdc_mark.proofs.Images.{written_twice}
use Rattle.pdc_mark.proofs.mark_file.write_file.Goals as goal

pub returns-clause-bytes : goal.returns-clause-bytes
returns-clause-bytes g c =
    let old = g.D.Disk.seen c.args.disk.now in
    let first = c.args.first.now in
    let second = c.args.second.now in
    let fits : length old ≤ SLOT_LEN + length second = omega (arith, c.requires, c.told-second) in
    let both = written_twice old first second SLOT_LEN c.told-first fits in
    let made = c.sync.ensures.seen ∙ c.in_ok-write_at-2.ensures.written ∙ ap (λ (bytes : List ℕ). written bytes SLOT_LEN second) c.in_ok-write_at.ensures.written ∙ both in
    on_ok_weaker c.sync.result (λ all. made) c.sync.ensures.durable
