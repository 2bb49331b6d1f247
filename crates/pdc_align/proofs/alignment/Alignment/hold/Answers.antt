use Rattle.std.proofs.Common.{map}
use Rattle.pdc_arrival.specs.Views.{section_part}
use Rattle.pdc_align.proofs.Follows.{layout_follows}
use Rattle.pdc_align.proofs.alignment.Alignment.hold.Goals as goal

pub returns-clause-stands : goal.returns-clause-stands
returns-clause-stands g c life E stream bytes stamp stands run =
    layout_follows c.others_leave_it.ensures life E c.args.self.now.state c.keep.new.self.state stream bytes stamp (map section_part c.args.sections.now) c.keep.ensures.state stands run
