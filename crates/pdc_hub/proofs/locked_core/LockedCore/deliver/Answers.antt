use Rattle.std.proofs.Common.{rules, arith, ◌≡◌, false}
use Rattle.pdc_hub.specs.Counted.{is_used_up, refused_by, taken_by}
use Rattle.pdc_hub.proofs.Counted.{is_free, refused_once, stays_below, taken_once}
use Rattle.pdc_hub.proofs.locked_core.LockedCore.deliver.Goals as goal

pub returns-clause-most : goal.returns-clause-most
returns-clause-most g c =
    let own = c.args.self.now in
    let mine = c.args.mine.now in
    let unused : is_used_up own.taken.total own.refused.total own.configured.total ≡ false = search rules in
    let free = is_free own.taken.total own.refused.total own.configured.total unused in (
      stays_below c.add.result.answer taken_by mine.taken.amount c.add.new.mine.taken.amount own.taken.total taken_once c.audit.ensures.below.0 free.taken_free (omega (arith, c.add.ensures.counted.0, c.audit.ensures.amounts.0)),
      stays_below c.add.result.answer refused_by mine.refused.amount c.add.new.mine.refused.amount own.refused.total refused_once c.audit.ensures.below.1 free.refused_free (omega (arith, c.add.ensures.counted.1, c.audit.ensures.amounts.1)),
    )
