use Rattle.std.proofs.Common.{List, ℕ, subst}
use Rattle.pdc_mark.specs.Faults.{IsRefusal}
use Rattle.pdc_any_mark.proofs.any_mark.AnyMark.read.Goals as goal

pub returns-clause-refusal : goal.returns-clause-refusal
returns-clause-refusal g c =
    let owner = c.owner_at.result in
    let read = c.bytes_of.new.disk in
    let now = g.D.Disk.failures c.in-Err.refused.disk in
    let fault = c.in-Err.refused.fault in
    let here = subst (λ (n : ℕ). IsRefusal (g.D.Disk.seen read) owner.id owner.rate n now fault) c.in-Ok.ensures.cause.kept c.in-Err.ensures.refusal in
    (owner.id, owner.rate, subst (λ (bytes : List ℕ). IsRefusal bytes owner.id owner.rate (g.D.Disk.failures c.args.disk) now fault) c.in-Ok.ensures.seen here)
