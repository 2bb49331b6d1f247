-- What is printed of replies and faults: a line each.
use Rattle.std.specs.Prelude.{◌≡◌, refl, ℕ, Bool, true, false, List, [], ◌∷◌, ◌++◌, Option, None, Some, if◌then◌else◌, codes}
use Rattle.std.specs.Fmt.{decimal, digits}
use Rattle.hex.specs.Hex.{encode_upper, encode_with}
use Rattle.pdc_align.specs.declared.ticked.Ticked.{Ticked}
use Rattle.pdc_history.specs.declared.event_fault.Fault.{Fault}
use Rattle.pdc_history.specs.declared.event_fault.Fault.TheVariants.{PremiseBroken, NoSuchFrame, NoMemory, StartsUsedUp}
use Rattle.pdc_history.specs.declared.event_fault.Premise.{Premise}
use Rattle.pdc_history.specs.declared.event_fault.Premise.TheVariants.{OneBody, OneSection, Genuine, OneTable}
use Rattle.pdc_history.specs.declared.reply.Published.{Published as PublishedRow}
use Rattle.pdc_history.specs.declared.reply.Reply.{Reply}
use Rattle.pdc_history.specs.declared.reply.Reply.TheVariants.{Sent, Came, Ticked as Tick, Published, Stopped}
use Rattle.pdc_history.specs.declared.who.Who.{Who}
use Rattle.pdc_history.specs.declared.who.Who.TheVariants.{A, B, M}
use Rattle.pdc_life.specs.Texts.{outcome_of}
use Rattle.pdc_life.specs.declared.outcome.Outcome.{Outcome}
use Rattle.pdc_life.specs.declared.outcome.Outcome.TheVariants.{Taken, Candidate, Known, Refused}
use Rattle.pdc_life.specs.declared.outcome.Refusal.TheVariants.{StaleCount}

-- ---- words

abbrev pub name_of : Who → List ℕ
name_of A = codes "A"
name_of B = codes "B"
name_of M = codes "M"

-- a premise, by its number
abbrev pub premise : Premise → List ℕ
premise OneBody = codes "P1"
premise OneSection = codes "P2"
premise Genuine = codes "P4"
premise OneTable = codes "P5"

abbrev pub fault_of : Fault → List ℕ
fault_of (PremiseBroken broken) = codes "X1 " ++ premise broken
fault_of NoSuchFrame = codes "X2"
fault_of NoMemory = codes "X3"
fault_of StartsUsedUp = codes "X4"

-- ---- lines

-- a core that has no such stream, and an outcome
abbrev pub came : Option Outcome → List ℕ
came None = codes "none"
came (Some outcome) = outcome_of outcome

abbrev pub change_of : Option ℕ → List ℕ
change_of None = codes "none"
change_of (Some change) = decimal change

abbrev pub used_up : Bool → List ℕ
used_up used = if used then codes " used_up" else codes ""

abbrev pub ticked_of : Ticked → List ℕ
ticked_of ticked = codes "closed=" ++ (decimal ticked.closed ++ (codes " change=" ++ (change_of ticked.change ++ used_up ticked.used_up)))

-- no row was due, or its instant, with its frame in hexadecimal
abbrev pub row_of : Option PublishedRow → (frame : List ℕ) → List ℕ
row_of None frame = codes "none"
row_of (Some row) frame = decimal row.instant ++ (codes " " ++ encode_upper frame)

-- the line of a reply; `frame` is the one that was published
abbrev pub line_of : Reply → (frame : List ℕ) → List ℕ
line_of (Sent number) frame = codes "sent " ++ (decimal number ++ codes "\n")
line_of (Came who outcome) frame = name_of who ++ (codes " " ++ (came outcome ++ codes "\n"))
line_of (Tick who ticked) frame = name_of who ++ (codes " " ++ (ticked_of ticked ++ codes "\n"))
line_of (Published who row) frame = name_of who ++ (codes " " ++ (row_of row frame ++ codes "\n"))
line_of (Stopped who start floor) frame = name_of who ++ (codes " start=" ++ (decimal start ++ (codes " floor=" ++ (decimal floor ++ codes "\n"))))

-- the line of a fault at the event with this number; of event 0 where the world does not begin
abbrev pub fault_line : Fault → (at : ℕ) → List ℕ
fault_line fault at = fault_of fault ++ (codes " at " ++ (decimal at ++ codes "\n"))

-- the line of a line that is no event
abbrev pub not_an_event : (number : ℕ) → List ℕ
not_an_event number = codes "line " ++ (decimal number ++ codes ": not an event\n")

-- Worked.
pub third_is_sent : line_of (Sent 3) [] ≡ codes "sent 3\n"
unfolding digits
third_is_sent = refl

pub is_candidate : line_of (Came A (Some Candidate)) [] ≡ codes "A Candidate\n"
is_candidate = refl

pub is_stale : line_of (Came M (Some (Refused StaleCount))) [] ≡ codes "M C8 StaleCount\n"
is_stale = refl

pub has_no_stream : line_of (Came B None) [] ≡ codes "B none\n"
has_no_stream = refl

pub closes_one : line_of (Tick A (record { closed = 1; change = None; used_up = false })) [] ≡ codes "A closed=1 change=none\n"
unfolding digits
closes_one = refl

pub adopts : line_of (Tick A (record { closed = 0; change = Some 1; used_up = false })) [] ≡ codes "A closed=0 change=1\n"
unfolding digits
adopts = refl

pub uses_up : line_of (Tick A (record { closed = 0; change = None; used_up = true })) [] ≡ codes "A closed=0 change=none used_up\n"
unfolding digits
uses_up = refl

pub publishes : line_of (Published A (Some (record { who = A; instant = 57478860001; number = 5 }))) (170 ∷ 2 ∷ []) ≡ codes "A 57478860001 AA02\n"
unfolding digits encode_with
publishes = refl

pub has_no_row : line_of (Published A None) [] ≡ codes "A none\n"
has_no_row = refl

pub starts_again : line_of (Stopped A 2 57478860001) [] ≡ codes "A start=2 floor=57478860001\n"
unfolding digits
starts_again = refl

pub breaks_a_premise : fault_line (PremiseBroken OneBody) 4 ≡ codes "X1 P1 at 4\n"
unfolding digits
breaks_a_premise = refl

pub finds_no_frame : fault_line NoSuchFrame 14 ≡ codes "X2 at 14\n"
unfolding digits
finds_no_frame = refl

pub line_5 : not_an_event 5 ≡ codes "line 5: not an event\n"
unfolding digits
line_5 = refl
