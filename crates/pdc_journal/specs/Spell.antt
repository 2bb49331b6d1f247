-- Something that lasts, as a silence.
use Rattle.std.specs.Prelude.{◌&&◌, ◌||◌, Bool, false, not}
use Rattle.pdc_journal.specs.Moment.{is_past}
use Rattle.pdc_journal.specs.declared.moment.Moment.{Moment}
use Rattle.pdc_journal.specs.declared.spell.Spell.{Spell}

-- it lasts since this moment, and was not told
abbrev pub begun_at : Moment → Spell
begun_at moment = record { since = moment; is_told = false }

abbrev pub was_told : Spell → Bool
was_told spell = spell.is_told

-- it is to be told now: it has lasted for five seconds, and was not told
abbrev pub is_due : (now : Moment) → Spell → Bool
is_due now spell = is_past 5 spell.since now && not spell.is_told

-- then it was told
abbrev pub looked_at : (now : Moment) → Spell → Spell
looked_at now spell = record spell { is_told = spell.is_told || is_due now spell }
