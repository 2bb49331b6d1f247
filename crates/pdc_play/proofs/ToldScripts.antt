-- A script that is played on a world is told by the histories that the world holds.
use Rattle.std.proofs.Common.{◌≡◌, inl, ℕ, ◌+◌, List, [], ◌∷◌, length, Option, Result, Ok, Err, IfOk, refl, sym, ap, subst, ◌∙◌}
use Rattle.std.specs.Io.KnownBytes.{Consumes, IsAtEnd}
use Rattle.std.specs.List.{slice_get}
use Rattle.std.specs.Str.Lines.{strip_carriage_return}
use Rattle.pdc_world.specs.Headline.{Headline}
use Rattle.pdc_world.specs.Seen.{rows_of, seen_of}
use Rattle.pdc_history.specs.Lives.{PublishedRowsAreThose}
use Rattle.pdc_history.specs.World.{World, Happened}
use Rattle.pdc_play.specs.Run.{HasEnded}
use Rattle.pdc_play.specs.Script.{Ends, EndsBy, EndsEarly, HasPlayed, PlaysText, counted, events_in, frame_of}
use Rattle.pdc_play.specs.declared.ending.Ending.{Ending}
use Rattle.pdc_play.specs.declared.ending.Ending.TheVariants as ending
use Rattle.pdc_play.specs.declared.fault.PlayFault.{PlayFault}
use Rattle.pdc_play.specs.Printed.{line_of}
use Rattle.pdc_play.specs.Seen.{RefusesSeen, RepliesSeen, frames_seen}
use Rattle.pdc_play.specs.Told.{IsPlayedOn, IsTold, Tells, frames_in}
use Rattle.pdc_world.specs.Acts.{IsWhy}
use Rattle.pdc_world.specs.Holds.{Holds, IsAnswered}
use Rattle.pdc_world.specs.Views.{WorldView}

-- The text of a line was played: the history that the world holds then tells it.
record TellsText (W : World) (H : List Happened) (text told : List ℕ) (new : WorldView) : Type 0 where
  pub after : List Happened
  pub holds : Holds W after new
  pub plays : PlaysText (Tells W) (frames_in W) H text told after

text_told : (W : World) (H : List Happened) (old : WorldView) (text told : List ℕ) (new : WorldView) → Holds W H old
    → PlaysText RepliesSeen frames_seen old text told new → TellsText W H text told new
text_told W H old [] told new holds p = record {
  after = H;
  holds = subst (λ (v : WorldView). Holds W H v) (sym p.1) holds;
  plays = (p.0, refl);
}
text_told W H old (byte ∷ bytes) told new holds p =
    let answered : IsAnswered W H p.asked p.reply new = p.replied W H holds in
    record {
      after = answered.happened ∷ H;
      holds = answered.holds;
      plays = record {
        asked = p.asked;
        event = p.event;
        reply = p.reply;
        replied = record { happened = answered.happened; step = answered.step; more = refl; told = answered.told };
        line = p.line ∙ ap (λ (frames : List (List ℕ)). line_of p.reply (frame_of (λ (n : ℕ). slice_get frames n) p.reply)) answered.holds.ledger.frames;
      };
    }

-- The same of lines.
record TellsLines (W : World) (lines : List (List ℕ)) (printed : List ℕ) (new : WorldView) : Type 0 where
  pub after : List Happened
  pub holds : Holds W after new
  pub played : HasPlayed (Tells W) (frames_in W) [] lines printed after

lines_told : (W : World) (first : WorldView) (lines : List (List ℕ)) (printed : List ℕ) (new : WorldView) → Holds W [] first
    → HasPlayed RepliesSeen frames_seen first lines printed new → TellsLines W lines printed new
lines_told W first [] printed new holds p = record {
  after = [];
  holds = subst (λ (v : WorldView). Holds W [] v) (sym p.1) holds;
  played = (p.0, refl);
}
lines_told W first (line ∷ before) printed new holds p =
    let earlier : TellsLines W before p.earlier p.between = lines_told W first before p.earlier p.between holds p.before in
    let now : TellsText W earlier.after (strip_carriage_return line) p.told new = text_told W earlier.after p.between (strip_carriage_return line) p.told new earlier.holds p.plays in
    record {
      after = now.after;
      holds = now.holds;
      played = record { earlier = p.earlier; between = earlier.after; before = earlier.played; told = p.told; plays = now.plays; whole = p.whole };
    }

-- The same of the line that ends the script.
end_told : (W : World) (H : List Happened) (state : WorldView) (text : List ℕ) (number at : ℕ) (end : Ending) (told : List ℕ) → Holds W H state
    → EndsBy RefusesSeen state text number at end told → EndsBy (IsWhy W) H text number at end told
end_told W H state text number at ending.Played told holds e = absurd e
end_told W H state text number at ending.NotAnEvent told holds e = e
end_told W H state text number at (ending.Refused fault) told holds e = record { asked = e.asked; event = e.event; refused = e.refused W H holds; line = e.line }

-- The same of a script that ended.
record TellsAll (W : World) (AtEnd : Type 0) (read : List ℕ) (end : Ending) (printed : List ℕ) (last : WorldView) : Type 0 where
  pub after : List Happened
  pub holds : Holds W after last
  pub ends : Ends (Tells W) (IsWhy W) (frames_in W) [] AtEnd read end printed after

early_told : (W : World) (first : WorldView) (AtEnd : Type 0) (read : List ℕ) (end : Ending) (printed : List ℕ) (last : WorldView) → Holds W [] first
    → (e : EndsEarly RepliesSeen RefusesSeen frames_seen first AtEnd read end printed last)
    → (t : TellsLines W e.lines e.earlier last) → EndsEarly (Tells W) (IsWhy W) (frames_in W) [] AtEnd read end printed t.after
early_told W first AtEnd read end printed last holds e t = record {
  lines = e.lines;
  are_lines = e.are_lines;
  earlier = e.earlier;
  before = t.played;
  left = e.left;
  whole = e.whole;
  text = e.text;
  next = e.next;
  told = e.told;
  ends = end_told W t.after last e.text (counted (length e.lines + 1)) (counted (events_in e.lines + 1)) end e.told t.holds e.ends;
  all = e.all;
}

all_told : (W : World) (first : WorldView) (AtEnd : Type 0) (read : List ℕ) (end : Ending) (printed : List ℕ) (last : WorldView) → Holds W [] first
    → Ends RepliesSeen RefusesSeen frames_seen first AtEnd read end printed last → TellsAll W AtEnd read end printed last
all_told W first AtEnd read ending.Played printed last holds e =
    let earlier : TellsLines W e.lines e.played.earlier e.played.between = lines_told W first e.lines e.played.earlier e.played.between holds e.played.before in
    let now : TellsText W earlier.after e.text e.played.told last = text_told W earlier.after e.played.between e.text e.played.told last earlier.holds e.played.plays in
    record {
      after = now.after;
      holds = now.holds;
      ends = record {
        at_end = e.at_end;
        lines = e.lines;
        are_lines = e.are_lines;
        text = e.text;
        is_line = e.is_line;
        whole = e.whole;
        played = record { earlier = e.played.earlier; between = earlier.after; before = earlier.played; told = e.played.told; plays = now.plays; whole = e.played.whole };
      };
    }
all_told W first AtEnd read ending.NotAnEvent printed last holds e =
    let t : TellsLines W e.lines e.earlier last = lines_told W first e.lines e.earlier last holds e.before in
    record { after = t.after; holds = t.holds; ends = early_told W first AtEnd read ending.NotAnEvent printed last holds e t }
all_told W first AtEnd read (ending.Refused fault) printed last holds e =
    let t : TellsLines W e.lines e.earlier last = lines_told W first e.lines e.earlier last holds e.before in
    record { after = t.after; holds = t.holds; ends = early_told W first AtEnd read (ending.Refused fault) printed last holds e t }

-- A script that was played on a world that held the empty history is told.
pub told : (W : World) (first : WorldView) (start : Option (List ℕ)) (AtEnd : Type 0) (read : List ℕ) (end : Ending) (last : WorldView) (contents : Option (List ℕ))
    → Holds W [] first → HasEnded RepliesSeen RefusesSeen frames_seen first start AtEnd read end last contents → Headline (seen_of last) (rows_of last) → PublishedRowsAreThose → IsTold W start AtEnd read end contents
told W first start AtEnd read end last contents holds h headline exact =
    let all : TellsAll W AtEnd read end h.printed last = all_told W first AtEnd read end h.printed last holds h.ends in
    record {
      after = all.after;
      history = all.holds.history;
      ended = record { printed = h.printed; ends = all.ends; written = h.written };
      last = last;
      holds = all.holds;
      headline = headline;
      exact = exact W all.after all.holds.history;
    }

pub run_told : (W : World) (first world : WorldView) (remaining rest start contents : Option (List ℕ)) (last : WorldView) (r : Result Ending PlayFault)
    → first ≡ world → Holds W [] world → Headline (seen_of last) (rows_of last) → PublishedRowsAreThose
    → IfOk r (λ end. (read : List ℕ) × Consumes remaining rest read × HasEnded RepliesSeen RefusesSeen frames_seen first start (IsAtEnd rest) read end last contents)
    → IfOk r (IsPlayedOn W remaining rest start contents)
run_told W first world remaining rest start contents last (Ok end) e holds headline exact h =
    inl (record { read = h.0; consumed = h.1; told = told W first start (IsAtEnd rest) h.0 end last contents (subst (λ (v : WorldView). Holds W [] v) (sym e) holds) h.2 headline exact })
run_told W first world remaining rest start contents last (Err fault) e holds headline exact h = tt
