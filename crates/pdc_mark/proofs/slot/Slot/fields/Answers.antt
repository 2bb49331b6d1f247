use Rattle.std.proofs.Common.{rules}
use Rattle.pdc_mark.proofs.slot.Slot.fields.Goals as goal

pub returns-clause-fits : goal.returns-clause-fits
returns-clause-fits c = record {
  id = search rules;
  rate = search rules;
  start = search rules;
  floor = search rules;
  counts = c.count_bytes.ensures.size;
  count = c.count_bytes.ensures.fits;
}
