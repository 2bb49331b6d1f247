use Rattle.std.proofs.Common.{◌≡◌, ◌⊎◌, inl, inr, sym, ◌∙◌}
use Rattle.std.proofs.lemmas.Bool.{false≢true}
use Rattle.pdc_life.specs.pdc_row.declared.output.Nominal.TheVariants.{Hz50, Hz60}
use Rattle.pdc_life.specs.pdc_row.Layout.{own_bytes}
use Rattle.pdc_arrival.proofs.OwnStamp.{with_its_stamp}
use Rattle.pdc_arrival.proofs.own_stamp.own_stamp.Goals as goal

pub returns-else-is_own : goal.returns-else-is_own
returns-else-is_own c stamp own =
    let id = c.args.node.now.id.value in
    let bytes = c.args.bytes.now in
    let found = c.stamp_in-stamp.result in
    let spelled : (bytes ≡ own_bytes id Hz50 found.start found.change) ⊎ (bytes ≡ own_bytes id Hz60 found.start found.change) =
    elim own.spelled [
      | inl e ↦ inl (with_its_stamp id Hz50 bytes stamp.start stamp.change found.start found.change own.start_fits own.change_fits e c.stamp_in-stamp.ensures.start c.stamp_in-stamp.ensures.change)
      | inr e ↦ inr (with_its_stamp id Hz60 bytes stamp.start stamp.change found.start found.change own.start_fits own.change_fits e c.stamp_in-stamp.ensures.start c.stamp_in-stamp.ensures.change)
    ] in
    false≢true (sym c.if-is_own.false ∙ c.is_own.ensures.1 spelled)
