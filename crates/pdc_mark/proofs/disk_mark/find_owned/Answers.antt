use Rattle.std.proofs.Common.{◌≢◌, ◌⊎◌, inl, inr, Some, rules}
use Rattle.std.proofs.lemmas.Result.{err_from_is_err_and}
use Rattle.pdc_mark.specs.Found.{IsFound}
use Rattle.pdc_mark.specs.Slots.{HasMark}
use Rattle.pdc_mark.proofs.disk_mark.find_owned.Goals as goal
use Rattle.pdc_mark.proofs.disk_mark.find_owned.Goals.{then-found-id-via-then-found-id, then-found-id-via-else-found-id+then-found-rate}

pub returns-in_err-bytes-clause-refusal : goal.returns-in_err-bytes-clause-refusal
returns-in_err-bytes-clause-refusal g c =
    let p = err_from_is_err_and c.from_residual.result c.from_residual.ensures.1 in
    rw (p.1, p.2) (c.in_err-bytes.ensures.refusal c.args.id c.args.rate)

pub returns-then-found-id-clause-refusal : goal.returns-then-found-id-clause-refusal
returns-then-found-id-clause-refusal g c =
    let found = c.in_ok-found.found in
    let is : IsFound (g.D.Disk.seen c.args.disk.now) found = search rules in
    let mark : HasMark (g.D.Disk.seen c.args.disk.now) (Some found.slot) = record { size = c.in_ok-bytes.ensures.size; holds = is.mark } in
    let differs : (found.slot.id ≢ c.args.id) ⊎ (found.slot.rate ≢ c.args.rate) =
    elim c.then-found-id.branch [
      | then-found-id-via-then-found-id w ↦ inl w.if-found-id.true
      | then-found-id-via-else-found-id+then-found-rate w ↦ inr w.if-found-rate.true
    ] in
    (c.in_ok-bytes.ensures.failures, found.slot, mark, differs)
