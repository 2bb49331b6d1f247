-- A run of a script: where it stands behind the bytes that were read, and what comes of more.
use Rattle.std.specs.Prelude.{◌≡◌, ℕ, List, ◌++◌, length, Option, None, Some, Result, Ok, Err}
use Rattle.std.specs.Io.KnownBytes.{Appends, Consumes, IsAtEnd}
use Rattle.pdc_history.specs.declared.event_fault.Fault.{Fault}
use Rattle.pdc_history.specs.declared.reply.Reply.{Reply}
use Rattle.pdc_history.specs.Asked.{Asked}
use Rattle.pdc_play.specs.Printed.{fault_line, line_of}
use Rattle.pdc_play.specs.Script.{AreLines, Ends, EndsBy, HasPlayed, IsOneLine, PlaysText, counted, events_in, frame_of, spelled}
use Rattle.pdc_play.specs.declared.ending.Ending.{Ending}
use Rattle.pdc_play.specs.declared.ending.Ending.TheVariants as ending
use Rattle.pdc_play.specs.declared.fault.PlayFault.{PlayFault}

-- The script goes on, or ends in this way. Of a run that ends before it nothing is said.
abbrev pub Comes : (on : Type 0) → (here : Ending → Type 0) → Result (Option Ending) PlayFault → Type 0
Comes on here (Ok None) = on
Comes on here (Ok (Some end)) = here end
Comes on here (Err fault) = Unit {0}

-- An event was played, and its reply written.
pub record Replies {T : Type 0} (replies : T → Asked → Reply → T → Type 0) (frames : T → ℕ → Option (List ℕ)) (old : T) (asked : Asked) (new : T) (contents after : Option (List ℕ)) : Type 0 where
  pub reply : Reply
  pub replied : replies old asked reply new
  pub written : Appends contents after (line_of reply (frame_of (frames new) reply))

-- It was refused as the event of this number, which was written, and nothing has changed.
pub record Refuses {T : Type 0} (refuses : T → Asked → Fault → Type 0) (old : T) (asked : Asked) (new : T) (at : ℕ) (end : Ending) (contents after : Option (List ℕ)) : Type 0 where
  pub fault : Fault
  pub is : end ≡ ending.Refused fault
  pub refused : refuses old asked fault
  pub same : new ≡ old
  pub written : Appends contents after (fault_line fault at)

-- The text of a line was played, and what is told of it written.
pub record PlaysOn {T : Type 0} (replies : T → Asked → Reply → T → Type 0) (frames : T → ℕ → Option (List ℕ)) (old : T) (text : List ℕ) (new : T) (contents after : Option (List ℕ)) : Type 0 where
  pub told : List ℕ
  pub plays : PlaysText replies frames old text told new
  pub written : Appends contents after told

-- It ends the script.
pub record EndsHere {T : Type 0} (refuses : T → Asked → Fault → Type 0) (old : T) (text : List ℕ) (new : T) (number at : ℕ) (end : Ending) (contents after : Option (List ℕ)) : Type 0 where
  pub told : List ℕ
  pub ends : EndsBy refuses new text number at end told
  pub same : new ≡ old
  pub written : Appends contents after told

-- Where a run stands: all lines of what was read were played, but the begun one.
pub record Stands {T : Type 0} (replies : T → Asked → Reply → T → Type 0) (frames : T → ℕ → Option (List ℕ)) (first : T) (start : Option (List ℕ)) (read begun : List ℕ) (number at : ℕ) (now : T) (contents : Option (List ℕ)) : Type 0 where
  pub lines : List (List ℕ)
  pub are_lines : AreLines lines
  pub is_begun : IsOneLine begun
  pub whole : read ≡ spelled lines ++ begun
  pub printed : List ℕ
  pub played : HasPlayed replies frames first lines printed now
  pub written : Appends start contents printed
  pub line_number : number ≡ counted (length lines)
  pub event_number : at ≡ counted (events_in lines)

-- The script has ended, where the input may be at its end, and all that is printed of it was written.
pub record HasEnded {T : Type 0} (replies : T → Asked → Reply → T → Type 0) (refuses : T → Asked → Fault → Type 0) (frames : T → ℕ → Option (List ℕ)) (first : T) (start : Option (List ℕ)) (AtEnd : Type 0) (read : List ℕ) (end : Ending) (last : T) (contents : Option (List ℕ)) : Type 0 where
  pub printed : List ℕ
  pub ends : Ends replies refuses frames first AtEnd read end printed last
  pub written : Appends start contents printed

-- It has ended by a line that LF ends, and not by the end of the input.
abbrev pub HasEndedEarly : {T : Type 0} → (T → Asked → Reply → T → Type 0) → (T → Asked → Fault → Type 0) → (T → ℕ → Option (List ℕ)) → (first : T) → (start : Option (List ℕ)) → (read : List ℕ) → Ending → (last : T) → (contents : Option (List ℕ)) → Type 0
HasEndedEarly replies refuses frames first start read end last contents = HasEnded replies refuses frames first start ⊥ read end last contents

-- What comes of so many more bytes of a reader: they were read, and each line that they end was played; or the script has ended, at its
-- end only where the reader is.
pub record ReadsOn {T : Type 0} (replies : T → Asked → Reply → T → Type 0) (refuses : T → Asked → Fault → Type 0) (frames : T → ℕ → Option (List ℕ)) (first : T) (start : Option (List ℕ)) (read begun : List ℕ) (number at : ℕ) (now : T) (remaining rest contents : Option (List ℕ)) (answer : Result (Option Ending) PlayFault) : Type 0 where
  pub came : List ℕ
  pub consumed : Consumes remaining rest came
  pub comes : Comes (Stands replies frames first start (read ++ came) begun number at now contents) (λ end. HasEnded replies refuses frames first start (IsAtEnd rest) (read ++ came) end now contents) answer
