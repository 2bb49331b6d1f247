use Rattle.pdc_align.specs.Calls.{no_column}
use Rattle.pdc_align.proofs.Follows.{column_at}
use Rattle.pdc_align.proofs.laws.columns_stand.Goals as goal

pub returns : goal.returns
returns c g E a column stands within = column_at g E a column no_column stands within
