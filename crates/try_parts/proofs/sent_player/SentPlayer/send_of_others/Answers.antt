use Rattle.try_parts.proofs.sent_player.SentPlayer.send_of_others.Goals as goal

pub push_reserved-requires-clause-of_none : goal.push_reserved-requires-clause-of_none
push_reserved-requires-clause-of_none c = c.is_of_no_pmu.ensures.0 c.if-is_of_no_pmu.true
