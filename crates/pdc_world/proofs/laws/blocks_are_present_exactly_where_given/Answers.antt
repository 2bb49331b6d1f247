use Rattle.pdc_world.proofs.laws.blocks_are_present_exactly_where_given.Goals as goal

pub returns-clause-sent : goal.returns-clause-sent
returns-clause-sent g c = λ W H holds. c.stamps_have_one_layout.ensures.published W H holds.history

pub returns-clause-exact : goal.returns-clause-exact
returns-clause-exact g c = λ W H holds. c.lives_are_lives.ensures.moments W H holds.history
