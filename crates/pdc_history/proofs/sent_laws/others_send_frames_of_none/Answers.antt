use Rattle.std.proofs.Common.{sym, ap, ◌∙◌}
use Rattle.std.specs.List.{slice_get}
use Rattle.pdc_life.specs.NodeReading.{stream_of}
use Rattle.pdc_life.specs.Reading.{IsOfStream}
use Rattle.pdc_history.proofs.Worlds.{others_send_none}
use Rattle.pdc_history.proofs.sent_laws.others_send_frames_of_none.Goals as goal

pub returns : goal.returns
returns c W H h v bytes is has among apart = others_send_none c.pmus_send_one.ensures.own W H h v bytes is has among apart
