use Rattle.std.proofs.Common.{◌≡◌, ℕ, List, length, take, ap, ◌∙◌, arith}
use Rattle.std.proofs.lemmas.List.{take_all}
use Rattle.pdc_mark.specs.declared.layout.TheConstants.{MARK_LEN}
use Rattle.pdc_mark.proofs.mark_file.read_file.Goals as goal

pub returns-clause-bytes : goal.returns-clause-bytes
returns-clause-bytes g c =
    let seen = c.len.ensures.seen ∙ c.sync.ensures.seen in
    let size : length (g.D.Disk.seen c.args.disk.now) ≡ MARK_LEN = omega (arith, ap length c.sync.ensures.seen, c.in_ok-len.ensures.len, c.if-len-2.false) in
    c.in_ok-read_at.ensures.bytes ∙ ap (λ (bytes : List ℕ). take MARK_LEN bytes) seen ∙ take_all MARK_LEN (g.D.Disk.seen c.args.disk.now) (omega (arith, size))
