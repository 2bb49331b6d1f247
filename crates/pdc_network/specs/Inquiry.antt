-- When a sender is asked for its configuration again (STAT is IEEE C37.118.2-2011, 6.3 and table 7).
use Rattle.std.specs.Prelude.{ℕ, ◌&&◌, ◌||◌, Bool, false, not, if◌then◌else◌, List, Option, None, Some}
use Rattle.pdc_journal.specs.Head.{change_in}
use Rattle.pdc_journal.specs.Moment.{is_long_ago, is_past}
use Rattle.pdc_journal.specs.declared.moment.Moment.{Moment}
use Rattle.pdc_life.specs.declared.outcome.Outcome.{Outcome}
use Rattle.pdc_life.specs.declared.outcome.Outcome.TheVariants.{Taken, Candidate, Known, Refused}
use Rattle.pdc_life.specs.declared.outcome.Refusal.{Refusal}
use Rattle.pdc_life.specs.declared.outcome.Refusal.TheVariants.{NoConfig, OtherStamp, WrongLength}
use Rattle.pdc_network.specs.declared.inquiry.Inquiry.{Inquiry}

-- nothing was asked for, and nothing came
abbrev pub fresh : Inquiry
fresh = record { asked = None; misfit = None; is_misfit_told = false; changes = false }

-- the configuration is asked for at this moment
abbrev pub asked_at : Moment → Inquiry → Inquiry
asked_at now inquiry = record inquiry { asked = Some now }

-- A datagram calls for it where bit 10 of STAT rises: it is a data frame that has the bit set, and the data frame before it had not, or
-- there was none. A datagram that is no data, as the configuration that was asked for, changes nothing.
abbrev pub rises : (before : Bool) → (change : Option Bool) → Bool
rises before (Some change) = change && not before
rises before None = false

abbrev pub seen : (before : Bool) → (change : Option Bool) → Bool
seen before (Some change) = change
seen before None = before

abbrev pub is_called_for_by : List ℕ → Inquiry → Bool
is_called_for_by bytes inquiry = rises inquiry.changes (change_in bytes)

abbrev pub with_datagram : List ℕ → Inquiry → Inquiry
with_datagram bytes inquiry = record inquiry { changes = seen inquiry.changes (change_in bytes) }

-- It was not asked for within so many seconds.
abbrev pub is_overdue : (seconds : ℕ) → (now : Moment) → Inquiry → Bool
is_overdue seconds now inquiry = is_long_ago seconds inquiry.asked now

-- Data is refused by its length, the first time in a row or since a moment before: the configuration is called for once that has lasted for
-- a second, and then each five seconds.
abbrev pub misfit_due : (misfit : Option Moment) → (now : Moment) → Inquiry → Bool
misfit_due None now inquiry = false
misfit_due (Some since) now inquiry = if inquiry.is_misfit_told then is_overdue 5 now inquiry else is_past 1 since now

abbrev pub is_misfit_due : (now : Moment) → Inquiry → Bool
is_misfit_due now inquiry = misfit_due inquiry.misfit now inquiry

abbrev pub misfit_since : (misfit : Option Moment) → (now : Moment) → Inquiry → Inquiry
misfit_since None now inquiry = record inquiry { misfit = Some now; is_misfit_told = false }
misfit_since (Some since) now inquiry = record inquiry { is_misfit_told = inquiry.is_misfit_told || is_misfit_due now inquiry }

abbrev pub with_misfit : (now : Moment) → Inquiry → Inquiry
with_misfit now inquiry = misfit_since inquiry.misfit now inquiry

-- A refusal calls for it: where no configuration is in force, once in five seconds; where the one in force has another stamp, once in a
-- second; and where the data has another length.
abbrev pub refusal_calls : (now : Moment) → Refusal → Inquiry → Bool
refusal_calls now NoConfig inquiry = is_overdue 5 now inquiry
refusal_calls now OtherStamp inquiry = is_overdue 1 now inquiry
refusal_calls now WrongLength inquiry = is_misfit_due now inquiry
refusal_calls now _ inquiry = false

abbrev pub with_refusal : (now : Moment) → Refusal → Inquiry → Inquiry
with_refusal now WrongLength inquiry = with_misfit now inquiry
with_refusal now _ inquiry = inquiry

-- Data that is taken calls for it as long as bit 10 of STAT stays set, once in five seconds. With it no data is refused by its length any
-- more.
abbrev pub is_called_for : (now : Moment) → Outcome → Inquiry → Bool
is_called_for now Taken inquiry = inquiry.changes && is_overdue 5 now inquiry
is_called_for now Candidate inquiry = false
is_called_for now Known inquiry = false
is_called_for now (Refused cause) inquiry = refusal_calls now cause inquiry

abbrev pub with_answer : (now : Moment) → Outcome → Inquiry → Inquiry
with_answer now Taken inquiry = record inquiry { misfit = None }
with_answer now Candidate inquiry = inquiry
with_answer now Known inquiry = inquiry
with_answer now (Refused cause) inquiry = with_refusal now cause inquiry
