-- A script that is played, one line after the other.
use Rattle.std.proofs.Common.{◌≡◌, inl, inr, ℕ, ◌+◌, ◌-◌, ◌^◌, List, [], ◌∷◌, ◌++◌, length, take, drop, get_or, ◌<◌, add-one, drop-cons, Option, Some, None, Result, Ok, Err, IfOk, refl, sym, ap, subst, ◌∙◌, arith, append_assoc}
use Rattle.std.proofs.lemmas.List.{append-nil, take-append-drop}
use Rattle.std.specs.Prelude.{min, unwrap_or}
use Rattle.std.specs.Io.KnownBytes.{Consumes, IsAtEnd, Keeps}
use Rattle.std.specs.Str.Lines.{strip_carriage_return}
use Rattle.pdc_history.specs.declared.event_fault.Fault.{Fault}
use Rattle.pdc_history.specs.declared.reply.Reply.{Reply}
use Rattle.pdc_history.specs.Asked.{Asked}
use Rattle.pdc_play.specs.Line.{asked_of_line}
use Rattle.pdc_play.specs.Printed.{fault_line, line_of}
use Rattle.pdc_play.specs.Run.{Comes, EndsHere, HasEnded, HasEndedEarly, PlaysOn, ReadsOn, Refuses, Replies, Stands}
use Rattle.pdc_play.specs.Script.{Ends, EndsBy, EndsEarly, HasPlayed, IsNextLine, IsOneLine, counted, events_in, events_of, frame_of, spelled}
use Rattle.pdc_play.proofs.Appending.{appends_kept, appends_more, appends_none}
use Rattle.pdc_play.specs.declared.ending.Ending.{Ending}
use Rattle.pdc_play.specs.declared.ending.Ending.TheVariants as ending
use Rattle.pdc_play.specs.declared.fault.PlayFault.{PlayFault}

-- An event that was played is the text that it was read of.
pub played : {T : Type 0} (replies : T → Asked → Reply → T → Type 0) (refuses : T → Asked → Fault → Type 0) (frames : T → ℕ → Option (List ℕ)) (old : T) (text : List ℕ) (new : T) (number at : ℕ) (contents after : Option (List ℕ)) (asked : Asked) (r : Result (Option Ending) PlayFault)
    → asked_of_line text ≡ Some asked
    → Comes (Replies replies frames old asked new contents after) (λ end. Refuses refuses old asked new at end contents after) r
    → Comes (PlaysOn replies frames old text new contents after) (λ end. EndsHere refuses old text new number at end contents after) r
played replies refuses frames old [] new number at contents after asked r e h = absurd cc
played replies refuses frames old (byte ∷ bytes) new number at contents after asked (Ok None) e h = record {
  told = line_of h.reply (frame_of (frames new) h.reply);
  plays = record { asked = asked; event = e; reply = h.reply; replied = h.replied; line = refl };
  written = h.written;
}
played {T} replies refuses frames old (byte ∷ bytes) new number at contents after asked (Ok (Some end)) e h = record {
  told = fault_line h.fault at;
  ends = subst (λ (x : Ending). EndsBy refuses new (byte ∷ bytes) number at x (fault_line h.fault at)) (sym h.is)
      (record { asked = asked; event = e; refused = subst (λ (t : T). refuses t asked h.fault) (sym h.same) h.refused; line = refl });
  same = h.same;
  written = h.written;
}
played replies refuses frames old (byte ∷ bytes) new number at contents after asked (Err fault) e h = tt

-- A line was played: the run stands behind it.
pub line_played : {T : Type 0} (replies : T → Asked → Reply → T → Type 0) (frames : T → ℕ → Option (List ℕ)) (first : T) (start : Option (List ℕ)) (read begun : List ℕ) (number at : ℕ) (old new : T) (contents after : Option (List ℕ)) (later left : ℕ)
    → Stands replies frames first start read begun number at old contents
    → PlaysOn replies frames old (strip_carriage_return begun) new contents after
    → later ≡ min (number + 1) (2 ^ 64 - 1)
    → left ≡ min (at + events_of (strip_carriage_return begun)) (2 ^ 64 - 1)
    → Stands replies frames first start (read ++ 10 ∷ []) [] later left new after
line_played replies frames first start read begun number at old new contents after later left s p number-is at-is = record {
  lines = begun ∷ s.lines;
  are_lines = (s.is_begun, s.are_lines);
  is_begun = refl;
  whole = ap (λ (bs : List ℕ). bs ++ 10 ∷ []) s.whole ∙ append_assoc (spelled s.lines) begun (10 ∷ []) ∙ sym (append-nil (spelled s.lines ++ (begun ++ 10 ∷ [])));
  printed = s.printed ++ p.told;
  played = record { earlier = s.printed; between = old; before = s.played; told = p.told; plays = p.plays; whole = refl };
  written = appends_more start contents after s.printed p.told s.written p.written;
  line_number = omega (arith, number-is, s.line_number);
  event_number = omega (arith, at-is, s.event_number);
}

-- What ends a script ends it early, since there is a line that does.
ends_early : {T : Type 0} (replies : T → Asked → Reply → T → Type 0) (refuses : T → Asked → Fault → Type 0) (frames : T → ℕ → Option (List ℕ)) (first : T) (AtEnd : Type 0) (read : List ℕ) (end : Ending) (printed : List ℕ) (last : T) (text : List ℕ) (number at : ℕ) (told : List ℕ)
    → EndsBy refuses last text number at end told
    → EndsEarly replies refuses frames first AtEnd read end printed last → Ends replies refuses frames first AtEnd read end printed last
ends_early replies refuses frames first AtEnd read ending.Played printed last text number at told by e = absurd by
ends_early replies refuses frames first AtEnd read ending.NotAnEvent printed last text number at told by e = e
ends_early replies refuses frames first AtEnd read (ending.Refused fault) printed last text number at told by e = e

-- A line ends the script, with all that was told.
ended_by : {T : Type 0} (replies : T → Asked → Reply → T → Type 0) (refuses : T → Asked → Fault → Type 0) (frames : T → ℕ → Option (List ℕ)) (first : T) (start : Option (List ℕ)) (AtEnd : Type 0) (read begun : List ℕ) (number at : ℕ) (old new : T) (contents after : Option (List ℕ)) (text : List ℕ) (left : List ℕ) (whole : List ℕ) (later up : ℕ) (end : Ending)
    → (s : Stands replies frames first start read begun number at old contents)
    → EndsHere refuses old text new later up end contents after
    → later ≡ min (number + 1) (2 ^ 64 - 1)
    → up ≡ min (at + 1) (2 ^ 64 - 1)
    → whole ≡ spelled s.lines ++ left
    → IsNextLine AtEnd left text
    → HasEnded replies refuses frames first start AtEnd whole end new after
ended_by {T} replies refuses frames first start AtEnd read begun number at old new contents after text left whole later up end s p later-is up-is whole-is next =
    let number-is : later ≡ counted (length s.lines + 1) = omega (arith, later-is, s.line_number) in
    let at-is : up ≡ counted (events_in s.lines + 1) = omega (arith, up-is, s.event_number) in
    let by : EndsBy refuses new text (counted (length s.lines + 1)) (counted (events_in s.lines + 1)) end p.told = subst (λ (n : ℕ). EndsBy refuses new text n (counted (events_in s.lines + 1)) end p.told) number-is (subst (λ (n : ℕ). EndsBy refuses new text later n end p.told) at-is p.ends) in
    let early : EndsEarly replies refuses frames first AtEnd whole end (s.printed ++ p.told) new = record {
      lines = s.lines;
      are_lines = s.are_lines;
      earlier = s.printed;
      before = subst (λ (t : T). HasPlayed replies frames first s.lines s.printed t) (sym p.same) s.played;
      left = left;
      whole = whole-is;
      text = text;
      next = next;
      told = p.told;
      ends = by;
      all = refl;
    } in
    record {
      printed = s.printed ++ p.told;
      ends = ends_early replies refuses frames first AtEnd whole end (s.printed ++ p.told) new text (counted (length s.lines + 1)) (counted (events_in s.lines + 1)) p.told by early;
      written = appends_more start contents after s.printed p.told s.written p.written;
    }

-- ---- where it ends

next_where : {A B : Type 0} → (A → B) → (left text : List ℕ) → IsNextLine A left text → IsNextLine B left text
next_where f left text (inl e) = inl e
next_where f left text (inr e) = inr (f e.0, e.1, e.2)

early_where : {T A B : Type 0} (replies : T → Asked → Reply → T → Type 0) (refuses : T → Asked → Fault → Type 0) (frames : T → ℕ → Option (List ℕ)) (first : T) (read : List ℕ) (end : Ending) (printed : List ℕ) (last : T)
    → (A → B) → EndsEarly replies refuses frames first A read end printed last → EndsEarly replies refuses frames first B read end printed last
early_where replies refuses frames first read end printed last f e = record {
  lines = e.lines;
  are_lines = e.are_lines;
  earlier = e.earlier;
  before = e.before;
  left = e.left;
  whole = e.whole;
  text = e.text;
  next = next_where f e.left e.text e.next;
  told = e.told;
  ends = e.ends;
  all = e.all;
}

ends_where : {T A B : Type 0} (replies : T → Asked → Reply → T → Type 0) (refuses : T → Asked → Fault → Type 0) (frames : T → ℕ → Option (List ℕ)) (first : T) (read : List ℕ) (end : Ending) (printed : List ℕ) (last : T)
    → (A → B) → Ends replies refuses frames first A read end printed last → Ends replies refuses frames first B read end printed last
ends_where replies refuses frames first read ending.Played printed last f e = record {
  at_end = f e.at_end;
  lines = e.lines;
  are_lines = e.are_lines;
  text = e.text;
  is_line = e.is_line;
  whole = e.whole;
  played = e.played;
}
ends_where replies refuses frames first read ending.NotAnEvent printed last f e = early_where replies refuses frames first read ending.NotAnEvent printed last f e
ends_where replies refuses frames first read (ending.Refused fault) printed last f e = early_where replies refuses frames first read (ending.Refused fault) printed last f e

-- Where it is known that the input is at its end, if it ended there, the script has ended so.
ended_where : {T A B : Type 0} (replies : T → Asked → Reply → T → Type 0) (refuses : T → Asked → Fault → Type 0) (frames : T → ℕ → Option (List ℕ)) (first : T) (start : Option (List ℕ)) (read : List ℕ) (end : Ending) (last : T) (contents : Option (List ℕ))
    → (A → B) → HasEnded replies refuses frames first start A read end last contents → HasEnded replies refuses frames first start B read end last contents
ended_where replies refuses frames first start read end last contents f h = record {
  printed = h.printed;
  ends = ends_where replies refuses frames first read end h.printed last f h.ends;
  written = h.written;
}

-- What was played to its end ended at that of the input.
ended_whole : {T : Type 0} (replies : T → Asked → Reply → T → Type 0) (refuses : T → Asked → Fault → Type 0) (frames : T → ℕ → Option (List ℕ)) (first : T) (start : Option (List ℕ)) (AtEnd : Type 0) (read : List ℕ) (end : Ending) (last : T) (contents : Option (List ℕ))
    → HasEnded replies refuses frames first start AtEnd read end last contents → end ≡ ending.Played → AtEnd
ended_whole replies refuses frames first start AtEnd read ending.Played last contents h e = h.ends.at_end
ended_whole replies refuses frames first start AtEnd read ending.NotAnEvent last contents h e = absurd cc
ended_whole replies refuses frames first start AtEnd read (ending.Refused fault) last contents h e = absurd cc

-- A line that LF ends ends the script, whatever was read behind it.
pub line_ends : {T : Type 0} (replies : T → Asked → Reply → T → Type 0) (refuses : T → Asked → Fault → Type 0) (frames : T → ℕ → Option (List ℕ)) (first : T) (start : Option (List ℕ)) (read begun : List ℕ) (number at : ℕ) (old new : T) (contents after : Option (List ℕ)) (later up : ℕ) (end : Ending)
    → Stands replies frames first start read begun number at old contents
    → EndsHere refuses old (strip_carriage_return begun) new later up end contents after
    → later ≡ min (number + 1) (2 ^ 64 - 1)
    → up ≡ min (at + 1) (2 ^ 64 - 1)
    → (more : List ℕ) → HasEndedEarly replies refuses frames first start (read ++ 10 ∷ more) end new after
line_ends replies refuses frames first start read begun number at old new contents after later up end s p later-is up-is more =
    ended_by replies refuses frames first start ⊥ read begun number at old new contents after (strip_carriage_return begun) (begun ++ 10 ∷ more) (read ++ 10 ∷ more) later up end s p later-is up-is
    (ap (λ (bs : List ℕ). bs ++ 10 ∷ more) s.whole ∙ append_assoc (spelled s.lines) begun (10 ∷ more))
    (inl (record { line = begun; more = more; whole = refl; one = s.is_begun; stripped = refl }))

-- The last line was played, or ends the script.
pub last_line : {T : Type 0} (replies : T → Asked → Reply → T → Type 0) (refuses : T → Asked → Fault → Type 0) (frames : T → ℕ → Option (List ℕ)) (first : T) (start : Option (List ℕ)) (read begun text : List ℕ) (number at : ℕ) (old new : T) (contents after : Option (List ℕ)) (later up : ℕ) (end : Option Ending)
    → Stands replies frames first start read begun number at old contents
    → Comes (PlaysOn replies frames old text new contents after) (λ end. EndsHere refuses old text new later up end contents after) (Ok end)
    → text ≡ begun
    → later ≡ min (number + 1) (2 ^ 64 - 1)
    → up ≡ min (at + 1) (2 ^ 64 - 1)
    → HasEnded replies refuses frames first start (Unit {0}) read (unwrap_or end ending.Played) new after
last_line replies refuses frames first start read begun text number at old new contents after later up None s p text-is later-is up-is = record {
  printed = s.printed ++ p.told;
  ends = record {
    at_end = tt;
    lines = s.lines;
    are_lines = s.are_lines;
    text = text;
    is_line = subst (λ (x : List ℕ). IsOneLine x) (sym text-is) s.is_begun;
    whole = s.whole ∙ ap (λ (x : List ℕ). spelled s.lines ++ x) (sym text-is);
    played = record { earlier = s.printed; between = old; before = s.played; told = p.told; plays = p.plays; whole = refl };
  };
  written = appends_more start contents after s.printed p.told s.written p.written;
}
last_line replies refuses frames first start read begun text number at old new contents after later up (Some end) s p text-is later-is up-is =
    ended_by replies refuses frames first start (Unit {0}) read begun number at old new contents after text text read later up end s p later-is up-is
    (s.whole ∙ ap (λ (x : List ℕ). spelled s.lines ++ x) (sym text-is))
    (inr (tt, refl, subst (λ (x : List ℕ). IsOneLine x) (sym text-is) s.is_begun))

-- What comes of a line that LF ends.
pub line_comes : {T : Type 0} (replies : T → Asked → Reply → T → Type 0) (refuses : T → Asked → Fault → Type 0) (frames : T → ℕ → Option (List ℕ)) (first : T) (start : Option (List ℕ)) (read begun text : List ℕ) (number at : ℕ) (old new : T) (contents after : Option (List ℕ)) (later up : ℕ) (left : List ℕ) (counts marks : ℕ) (r : Result (Option Ending) PlayFault)
    → Stands replies frames first start read begun number at old contents
    → Comes (PlaysOn replies frames old text new contents after) (λ end. EndsHere refuses old text new later up end contents after) r
    → text ≡ strip_carriage_return begun
    → later ≡ min (number + 1) (2 ^ 64 - 1)
    → up ≡ min (at + 1) (2 ^ 64 - 1)
    → (r ≡ Ok None → (left ≡ []) × (counts ≡ later) × (marks ≡ min (at + events_of text) (2 ^ 64 - 1)))
    → Comes (Stands replies frames first start (read ++ 10 ∷ []) left counts marks new after)
    (λ end. (more : List ℕ) → HasEndedEarly replies refuses frames first start (read ++ 10 ∷ more) end new after) r
line_comes {T} replies refuses frames first start read begun text number at old new contents after later up left counts marks (Ok None) s p text-is later-is up-is now =
    let is = now refl in
    let plays : PlaysOn replies frames old (strip_carriage_return begun) new contents after = subst (λ (x : List ℕ). PlaysOn replies frames old x new contents after) text-is p in
    let marks-is : marks ≡ min (at + events_of (strip_carriage_return begun)) (2 ^ 64 - 1) = subst (λ (x : List ℕ). marks ≡ min (at + events_of x) (2 ^ 64 - 1)) text-is is.2 in
    subst (λ (x : List ℕ). Stands replies frames first start (read ++ 10 ∷ []) x counts marks new after) (sym is.0)
    (line_played replies frames first start read begun number at old new contents after counts marks s plays (is.1 ∙ later-is) marks-is)
line_comes {T} replies refuses frames first start read begun text number at old new contents after later up left counts marks (Ok (Some end)) s p text-is later-is up-is now =
    line_ends replies refuses frames first start read begun number at old new contents after later up end s
    (subst (λ (x : List ℕ). EndsHere refuses old x new later up end contents after) text-is p) later-is up-is
line_comes replies refuses frames first start read begun text number at old new contents after later up left counts marks (Err fault) s p text-is later-is up-is now = tt

-- a list, of which a part was taken, an element and the rest
pub parts : (read piece : List ℕ) (i : ℕ) → i < length piece → (read ++ take i piece) ++ get_or piece i 0 ∷ drop (i + 1) piece ≡ read ++ piece
parts read piece i h =
    append_assoc read (take i piece) (get_or piece i 0 ∷ drop (i + 1) piece)
    ∙ ap (λ (bs : List ℕ). read ++ (take i piece ++ bs)) (sym (rw (add-one, drop-cons piece i 0) refl))
    ∙ ap (λ (bs : List ℕ). read ++ bs) (take-append-drop i piece)

pub none_of : (o : Option Ending) → ((end : Ending) → o ≡ Some end → ⊥) → o ≡ None
none_of None h = refl
none_of (Some end) h = absurd (h end refl)

-- ---- reads

consumes_more : (remaining mid rest : Option (List ℕ)) (first second : List ℕ) → Consumes remaining mid first → Consumes mid rest second → Consumes remaining rest (first ++ second)
consumes_more None mid rest first second h k = tt
consumes_more (Some xs) None rest first second h k = absurd h
consumes_more (Some xs) (Some ys) None first second h k = absurd k
consumes_more (Some xs) (Some ys) (Some zs) first second h k = h ∙ ap (λ (bs : List ℕ). first ++ bs) k ∙ sym (append_assoc first second zs)

consumes_none : (remaining : Option (List ℕ)) → Consumes remaining remaining []
consumes_none None = tt
consumes_none (Some xs) = refl

kept_consumes : (remaining rest : Option (List ℕ)) → Keeps remaining rest → Consumes remaining rest []
kept_consumes None rest k = tt
kept_consumes (Some xs) None k = absurd k
kept_consumes (Some xs) (Some ys) k = sym k

-- What came was fed.
pub fed : {T : Type 0} (replies : T → Asked → Reply → T → Type 0) (refuses : T → Asked → Fault → Type 0) (frames : T → ℕ → Option (List ℕ)) (first : T) (start : Option (List ℕ)) (read came begun : List ℕ) (number at : ℕ) (now : T) (remaining rest contents : Option (List ℕ)) (r : Result (Option Ending) PlayFault)
    → Consumes remaining rest came
    → Comes (Stands replies frames first start (read ++ came) begun number at now contents) (λ end. HasEndedEarly replies refuses frames first start (read ++ came) end now contents) r
    → ReadsOn replies refuses frames first start read begun number at now remaining rest contents r
fed replies refuses frames first start read came begun number at now remaining rest contents (Ok None) consumed h = record { came = came; consumed = consumed; comes = h }
fed replies refuses frames first start read came begun number at now remaining rest contents (Ok (Some end)) consumed h = record {
  came = came;
  consumed = consumed;
  comes = ended_where replies refuses frames first start (read ++ came) end now contents (λ no. absurd no) h;
}
fed replies refuses frames first start read came begun number at now remaining rest contents (Err fault) consumed h = record { came = came; consumed = consumed; comes = tt }

-- Nothing came of a read that was interrupted.
pub nothing_came : {T : Type 0} (replies : T → Asked → Reply → T → Type 0) (refuses : T → Asked → Fault → Type 0) (frames : T → ℕ → Option (List ℕ)) (first : T) (start : Option (List ℕ)) (read begun : List ℕ) (number at : ℕ) (now : T) (remaining rest contents : Option (List ℕ))
    → Stands replies frames first start read begun number at now contents
    → Keeps remaining rest
    → ReadsOn replies refuses frames first start read begun number at now remaining rest contents (Ok None)
nothing_came replies refuses frames first start read begun number at now remaining rest contents s k = record {
  came = [];
  consumed = kept_consumes remaining rest k;
  comes = subst (λ (bs : List ℕ). Stands replies frames first start bs begun number at now contents) (sym (append-nil read)) s;
}

-- No byte came, and the input is at its end.
pub no_byte_came : {E : Type 0} (remaining rest : Option (List ℕ)) (bytes : List ℕ) (n : ℕ) (r : Result ℕ E) → r ≡ Ok n → n ≡ 0 → IfOk r (λ len. Consumes remaining rest (take len bytes)) → Consumes remaining rest []
no_byte_came {E} remaining rest bytes n r is none h =
    subst (λ (len : ℕ). Consumes remaining rest (take len bytes)) none
    (subst (λ (x : Result ℕ E). IfOk x (λ len. Consumes remaining rest (take len bytes))) is h)

pub ended_there : {E : Type 0} (rest : Option (List ℕ)) (n : ℕ) (r : Result ℕ E) → r ≡ Ok n → n ≡ 0 → IfOk r (λ len. len ≡ 0 → IsAtEnd rest) → IsAtEnd rest
ended_there {E} rest n r is none h = (subst (λ (x : Result ℕ E). IfOk x (λ len. len ≡ 0 → IsAtEnd rest)) is h) none

-- The input is at its end.
pub at_end : {T : Type 0} (replies : T → Asked → Reply → T → Type 0) (refuses : T → Asked → Fault → Type 0) (frames : T → ℕ → Option (List ℕ)) (first : T) (start : Option (List ℕ)) (read begun : List ℕ) (number at : ℕ) (now : T) (remaining rest contents : Option (List ℕ)) (end : Ending)
    → HasEnded replies refuses frames first start (Unit {0}) read end now contents
    → Consumes remaining rest []
    → IsAtEnd rest
    → ReadsOn replies refuses frames first start read begun number at now remaining rest contents (Ok (Some end))
at_end replies refuses frames first start read begun number at now remaining rest contents end h consumed ended = record {
  came = [];
  consumed = consumed;
  comes = subst (λ (bs : List ℕ). HasEnded replies refuses frames first start (IsAtEnd rest) bs end now contents) (sym (append-nil read))
      (ended_where replies refuses frames first start read end now contents (λ _. ended) h);
}

-- What a run has read so far.
pub record Reading {T : Type 0} (replies : T → Asked → Reply → T → Type 0) (frames : T → ℕ → Option (List ℕ)) (first : T) (start : Option (List ℕ)) (begun : List ℕ) (number at : ℕ) (now : T) (remaining rest contents : Option (List ℕ)) : Type 0 where
  pub read : List ℕ
  pub consumed : Consumes remaining rest read
  pub stands : Stands replies frames first start read begun number at now contents

pub nothing_read : {T : Type 0} (replies : T → Asked → Reply → T → Type 0) (frames : T → ℕ → Option (List ℕ)) (first : T) (start remaining : Option (List ℕ)) (begun : List ℕ) (number at : ℕ) → begun ≡ [] → number ≡ 0 → at ≡ 0 → Reading replies frames first start begun number at first remaining remaining start
nothing_read replies frames first start remaining begun number at begun-is number-is at-is = record {
  read = [];
  consumed = consumes_none remaining;
  stands = record {
    lines = [];
    are_lines = tt;
    is_begun = subst (λ (x : List ℕ). IsOneLine x) (sym begun-is) refl;
    whole = sym begun-is;
    printed = [];
    played = (refl, refl);
    written = appends_none start;
    line_number = number-is;
    event_number = at-is;
  };
}

pub read_on : {T : Type 0} (replies : T → Asked → Reply → T → Type 0) (refuses : T → Asked → Fault → Type 0) (frames : T → ℕ → Option (List ℕ)) (first : T) (start : Option (List ℕ)) (before begun : List ℕ) (m n number at : ℕ) (old now : T) (remaining mid rest earlier contents after : Option (List ℕ)) (comes : Option Ending)
    → Reading replies frames first start before m n old remaining mid earlier
    → ((first : T) (start : Option (List ℕ)) (read : List ℕ) → Stands replies frames first start read before m n old earlier → ReadsOn replies refuses frames first start read begun number at now mid rest contents (Ok comes))
    → comes ≡ None
    → Keeps contents after
    → Reading replies frames first start begun number at now remaining rest after
read_on replies refuses frames first start before begun m n number at old now remaining mid rest earlier contents after None r f e k =
    let on = f first start r.read r.stands in
    let s = on.comes in
    record {
      read = r.read ++ on.came;
      consumed = consumes_more remaining mid rest r.read on.came r.consumed on.consumed;
      stands = record {
        lines = s.lines;
        are_lines = s.are_lines;
        is_begun = s.is_begun;
        whole = s.whole;
        printed = s.printed;
        played = s.played;
        written = appends_kept start contents after s.printed s.written k;
        line_number = s.line_number;
        event_number = s.event_number;
      };
    }
read_on replies refuses frames first start before begun m n number at old now remaining mid rest earlier contents after (Some end) r f e k = absurd cc

-- How a run ends.
pub record RunEnds {T : Type 0} (replies : T → Asked → Reply → T → Type 0) (refuses : T → Asked → Fault → Type 0) (frames : T → ℕ → Option (List ℕ)) (first : T) (start : Option (List ℕ)) (now : T) (remaining rest after : Option (List ℕ)) (end : Ending) : Type 0 where
  pub read : List ℕ
  pub consumed : Consumes remaining rest read
  pub ended : HasEnded replies refuses frames first start (IsAtEnd rest) read end now after
  pub whole : end ≡ ending.Played → IsAtEnd rest

pub run_ends : {T : Type 0} (replies : T → Asked → Reply → T → Type 0) (refuses : T → Asked → Fault → Type 0) (frames : T → ℕ → Option (List ℕ)) (first : T) (start : Option (List ℕ)) (before begun : List ℕ) (m n number at : ℕ) (old now : T) (remaining mid rest earlier contents after : Option (List ℕ)) (comes : Option Ending) (end : Ending)
    → Reading replies frames first start before m n old remaining mid earlier
    → ((first : T) (start : Option (List ℕ)) (read : List ℕ) → Stands replies frames first start read before m n old earlier → ReadsOn replies refuses frames first start read begun number at now mid rest contents (Ok comes))
    → comes ≡ Some end
    → Keeps contents after
    → RunEnds replies refuses frames first start now remaining rest after end
run_ends replies refuses frames first start before begun m n number at old now remaining mid rest earlier contents after None end r f e k = absurd cc
run_ends {T} replies refuses frames first start before begun m n number at old now remaining mid rest earlier contents after (Some other) end r f e k =
    let on = f first start r.read r.stands in
    let same : other ≡ end = cc in
    let h = subst (λ (x : Ending). HasEnded replies refuses frames first start (IsAtEnd rest) (r.read ++ on.came) x now contents) same on.comes in
    record {
      read = r.read ++ on.came;
      consumed = consumes_more remaining mid rest r.read on.came r.consumed on.consumed;
      ended = record { printed = h.printed; ends = h.ends; written = appends_kept start contents after h.printed h.written k };
      whole = λ p. ended_whole replies refuses frames first start (IsAtEnd rest) (r.read ++ on.came) end now contents h p;
    }

pub the_ending : (end : Ending) → ◌≡◌ {A = Result Ending PlayFault} (Ok end) (Ok ending.Played) → end ≡ ending.Played
the_ending end e = cc
