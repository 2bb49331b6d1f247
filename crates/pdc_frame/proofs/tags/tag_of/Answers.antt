use Rattle.std.proofs.Common.{sym, arith}
use Rattle.pdc_frame.specs.Tag.{tag_of}
use Rattle.pdc_frame.proofs.TagLemmas.{instant_of-tag_of}
use Rattle.pdc_frame.proofs.tags.tag_of.Goals as goal

pub returns-clause-value : goal.returns-clause-value
unfolding tag_of
returns-clause-value c = cc c.nearest-count.ensures.value

pub returns-clause-comes_back : goal.returns-clause-comes_back
returns-clause-comes_back c = rw (sym (returns-clause-value c)) at (instant_of-tag_of c.args.instant c.args.time_base c.args.rate (omega arith) (omega arith))
