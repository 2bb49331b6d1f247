use Rattle.std.proofs.Common.{subst}
use Rattle.pdc_world.specs.Headline.{Headline}
use Rattle.pdc_world.specs.Seen.{rows_of, seen_of}
use Rattle.pdc_world.specs.Views.{WorldView}
use Rattle.pdc_play.specs.Counted.{reader_of}
use Rattle.pdc_play.specs.Told.{world_over}
use Rattle.pdc_play.proofs.ToldScripts.{run_told}
use Rattle.pdc_play.proofs.begins.play_over.Goals as goal

pub returns-in-Ok-clause-told : goal.returns-in-Ok-clause-told
returns-in-Ok-clause-told g c =
    run_told (world_over c.args.roles (g.S.Mark.stored c.args.stores.0) (g.S.Mark.stored c.args.stores.1) (g.S.Mark.stored c.args.stores.2)) _ c.in-Ok.world
    (g.R.Read.remaining (reader_of c.args.reader.now)) (g.R.Read.remaining (reader_of c.run_script-ended.new.reader)) (g.W.Write.contents c.args.writer.now) (g.W.Write.contents c.run_script-ended.new.writer) _ c.run_script-ended.result
    c.new-on.ensures c.in-Ok.ensures.holds (subst (λ (v : WorldView). Headline (seen_of v) (rows_of v)) c.world.ensures c.headline_holds.ensures) c.lives_are_lives.ensures.moments c.run_script-ended.ensures.ends
