use Rattle.std.proofs.Common.{rules}
use Rattle.crossbeam_channel.specs.Claims.{view}
use Rattle.pdc_pipe.proofs.Pipes.{handed_on}
use Rattle.pdc_pipe.proofs.ends.send_owned.Goals as goal

pub returns : goal.returns
returns g c =
    (search rules, search rules, handed_on (view c.send_out-ended.new.pass).taken c.send_out-ended.result c.send_out-ended.ensures.took c.send_out-ended.ensures.whole, c.send_out-ended.ensures.fault)
