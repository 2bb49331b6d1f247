use Rattle.std.proofs.Common.{◌≡◌, ℕ, List, length, take, ap, ◌∙◌, arith}
use Rattle.std.proofs.lemmas.List.{take_all}
use Rattle.pdc_mark.specs.declared.version_1.TheConstants.{OLD_LEN}
use Rattle.pdc_mark.proofs.version_1.read_old_file.Goals as goal

pub returns-clause-bytes : goal.returns-clause-bytes
returns-clause-bytes g c =
    let seen = c.len.ensures.seen ∙ c.sync.ensures.seen in
    let size : length (g.D.Disk.seen c.args.disk.now) ≡ OLD_LEN = omega (arith, ap length c.sync.ensures.seen, c.in_ok-len.ensures.len, c.if-branch.false) in
    c.in_ok-read_at.ensures.bytes ∙ ap (λ (bytes : List ℕ). take OLD_LEN bytes) seen ∙ take_all OLD_LEN (g.D.Disk.seen c.args.disk.now) (omega (arith, size))
