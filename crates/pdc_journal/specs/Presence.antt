-- Whether data of a PMU comes, and when that is told.
use Rattle.std.specs.Prelude.{Bool, true, false, if◌then◌else◌, Option, None, Some}
use Rattle.pdc_journal.specs.Spell.{begun_at, is_due, looked_at, was_told}
use Rattle.pdc_journal.specs.declared.moment.Moment.{Moment}
use Rattle.pdc_journal.specs.declared.presence.News.{News}
use Rattle.pdc_journal.specs.declared.presence.News.TheVariants.{Missing, Back}
use Rattle.pdc_journal.specs.declared.presence.Presence.{Presence}
use Rattle.pdc_journal.specs.declared.spell.Spell.{Spell}

-- it was not looked for yet
abbrev pub first_presence : Presence
first_presence = record { absent = None }

-- since when no data of it came: since the last, or since it is looked for, which begins now
abbrev pub spell_of : (now : Moment) → Option Spell → Spell
spell_of now (Some spell) = spell
spell_of now None = begun_at now

-- It was told that it is missing, and not yet that it is back.
abbrev pub is_missing_in : Option Spell → Bool
is_missing_in (Some spell) = was_told spell
is_missing_in None = false

abbrev pub is_missing : Presence → Bool
is_missing presence = is_missing_in presence.absent

-- With data it is back, where it was missing. Without, it is missing once it was absent for five seconds, and that was not told.
abbrev pub news_in : (is_present : Bool) → (now : Moment) → Spell → Option News
news_in true now spell = if was_told spell then Some Back else None
news_in false now spell = if is_due now spell then Some Missing else None

abbrev pub news_of : (is_present : Bool) → (now : Moment) → Presence → Option News
news_of is_present now presence = news_in is_present now (spell_of now presence.absent)

-- then it is absent from now on, or as long as before
abbrev pub spell_after : (is_present : Bool) → (now : Moment) → Spell → Spell
spell_after true now spell = begun_at now
spell_after false now spell = looked_at now spell

abbrev pub seen_after : (is_present : Bool) → (now : Moment) → Presence → Presence
seen_after is_present now presence = record { absent = Some (spell_after is_present now (spell_of now presence.absent)) }
