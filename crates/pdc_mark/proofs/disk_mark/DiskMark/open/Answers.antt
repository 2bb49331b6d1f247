use Rattle.std.proofs.Common.{subst, sym, List, ℕ}
use Rattle.pdc_mark.specs.Slots.{HasJust}
use Rattle.pdc_mark.proofs.Marks.{has_image}
use Rattle.pdc_mark.proofs.disk_mark.DiskMark.open.Goals as goal

pub returns-in-Ok-clause-durable : goal.returns-in-Ok-clause-durable
returns-in-Ok-clause-durable g c =
    let slot = c.in-Ok.found.slot in
    let was : HasJust slot (g.D.Disk.seen c.args.disk) = record { size = c.in-Ok.ensures.size; holds = c.in-Ok.ensures.found.mark } in
    has_image _ _ slot c.in-Ok.ensures.durable (subst (λ (bytes : List ℕ). HasJust slot bytes) (sym c.in-Ok.ensures.seen) was)
