-- When something is told of a sender whose frames are refused.
use Rattle.std.specs.Prelude.{ℕ, List, Option, None, Some, Bool, replicate, slice_index_or, slice_set, if◌then◌else◌}
use Rattle.pdc_complaints.specs.pdc_life.Causes.{number_of}
use Rattle.pdc_complaints.specs.pdc_life.declared.outcome.Refusal.{Refusal}
use Rattle.pdc_complaints.specs.pdc_life.declared.outcome.TheConstants.{CAUSES}
use Rattle.pdc_journal.specs.Moment.{is_long_ago}
use Rattle.pdc_journal.specs.declared.complaint.Complaints.{Complaints}
use Rattle.pdc_journal.specs.declared.complaint.CauseComplaints.{CauseComplaints}
use Rattle.pdc_journal.specs.declared.moment.Moment.{Moment}

-- when something was told of a sender last, if ever
abbrev pub last_of : Complaints → Option Moment
last_of complaints = complaints.last

-- something more is told now: nothing was within the minute before
abbrev pub is_due : (now : Moment) → Complaints → Bool
is_due now complaints = is_long_ago 60 complaints.last now

-- then it is what was told last
abbrev pub looked_at : (now : Moment) → Complaints → Complaints
looked_at now complaints = record { last = if is_due now complaints then Some now else complaints.last }

-- no cause was told yet
abbrev pub none_told : CauseComplaints
none_told = record { last = replicate CAUSES None }

-- when a cause was told last, if ever
abbrev pub last_told : Refusal → CauseComplaints → Option Moment
last_told cause complaints = slice_index_or complaints.last (number_of cause) None

-- it is told now: it was not within the minute before
abbrev pub is_due_of : Refusal → (now : Moment) → CauseComplaints → Bool
is_due_of cause now complaints = is_long_ago 60 (last_told cause complaints) now

-- then it is the one that was told now, and each other one stays as it is
abbrev pub looked_at_of : Refusal → (now : Moment) → CauseComplaints → CauseComplaints
looked_at_of cause now complaints =
    if is_due_of cause now complaints then record { last = slice_set complaints.last (number_of cause) (Some now) } else complaints
