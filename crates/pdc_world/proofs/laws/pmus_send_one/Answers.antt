use Rattle.pdc_world.proofs.HeadlineNames.{PmusSendOneBody, PmusSendOneSection, seen_of}
use Rattle.pdc_world.proofs.{Genuine.{one_body, one_section}, Worlds.{of_frames}}
use Rattle.pdc_world.proofs.laws.pmus_send_one.Goals as goal

pub returns-clause-body : goal.returns-clause-body
returns-clause-body g c =
    one_body (seen_of c.args.world.now) (of_frames PmusSendOneBody c.args.world.now c.pmus_send_one.ensures.body c.holds_some_history.ensures)

pub returns-clause-section : goal.returns-clause-section
returns-clause-section g c =
    one_section (seen_of c.args.world.now) (of_frames PmusSendOneSection c.args.world.now c.pmus_send_one.ensures.section c.holds_some_history.ensures)
