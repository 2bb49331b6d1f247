use Rattle.pdc_threads.proofs.Headlines as headline
use Rattle.pdc_threads.proofs.laws.runs_keep_headline.Goals as goal

pub returns : goal.returns
returns g c =
    headline.runs_keep_headline _ _ _ c.blocks_are_genuine.ensures.data c.taken_is_given.ensures.under c.lives_are_runs.ensures c.present_exactly_where_given.ensures.rows c.frames_are_exact.ensures.rise
