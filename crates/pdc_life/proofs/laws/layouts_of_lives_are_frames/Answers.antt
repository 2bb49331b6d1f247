use Rattle.pdc_life.proofs.Frames.{LayoutLaws, layouts_of_lives_are_frames, layouts_tell_stamps}
use Rattle.pdc_life.proofs.laws.layouts_of_lives_are_frames.Goals as goal

pub returns : goal.returns
returns c =
    let laws : LayoutLaws = record {
      layouts = c.layouts_are_frames.ensures;
      stamps = c.own_sections_tell_stamps.ensures;
      same_frame = c.frames_are_read_in_one_way.ensures.same;
      same_config = c.configurations_are_read_in_one_way.ensures.same;
    } in
    record {
      frames = λ g E soc run few fits. layouts_of_lives_are_frames laws g E soc run few fits;
      tell = λ g h E F soc other run also few fewer soc_fits other_fits start later same.
          layouts_tell_stamps laws g h E F soc other run also few fewer soc_fits other_fits start later same;
    }
