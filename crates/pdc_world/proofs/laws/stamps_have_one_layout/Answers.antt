use Rattle.pdc_world.proofs.HeadlineNames.{LayoutsAreOne, seen_of}
use Rattle.pdc_world.proofs.{Genuine.{layouts_are_one_in, one_layout}, Worlds.{of_frames}}
use Rattle.pdc_world.proofs.laws.stamps_have_one_layout.Goals as goal

pub returns : goal.returns
returns g c =
    one_layout (seen_of c.args.world.now) (of_frames LayoutsAreOne c.args.world.now (layouts_are_one_in c.stamps_have_one_layout.ensures.layouts) c.holds_some_history.ensures)
