-- What comes of a stream by one turn more.
use Rattle.std.proofs.Common.{◌≡◌, ℕ, List, [], ◌∷◌, ◌++◌, drop, length, take, ap, append_assoc, ◌∙◌, refl, subst, sym, Option, None, Some, take-append-drop}
use Rattle.std.proofs.lemmas.List.{append-nil}
use Rattle.std.proofs.lemmas.List.Concat.{flat_map-append}
use Rattle.std.proofs.Math.Seq.{take-append_seam}
use Rattle.std.specs.List.{flat_map}
use Rattle.std.specs.Io.KnownBytes.{Appends, Consumes, Keeps}
use Rattle.pdc_frame.specs.Command.{command_fields}
use Rattle.pdc_frame.specs.Frame.{spelling_of}
use Rattle.pdc_frame.specs.Stream.{Held, HasTaken, given_at}
use Rattle.pdc_frame.specs.declared.command.Command.{Command}
use Rattle.pdc_frame.specs.declared.step.Step.{Step}
use Rattle.pdc_network.specs.Streamed.{DidRead, DidTell, FailedToTell, HasEnded, HasRun, HaveEnded, IsDone, Turn, WasDone, WereDone, read_in, TakesFront, WasLetGo, WasWritten}

-- known bytes that stay lose none
kept_none : (before now : Option (List ℕ)) (bytes : List ℕ) → bytes ≡ [] → Keeps before now → Consumes before now bytes
kept_none None now bytes none kept = tt
kept_none (Some xs) None bytes none kept = absurd kept
kept_none (Some xs) (Some ys) bytes none kept = sym (ap (λ (zs : List ℕ). zs ++ ys) none ∙ kept)

-- what a feed took of what was unread
pub takes_front : (held later : Held) (unread left piece bytes : List ℕ) (n : ℕ) (step : Step) (frames : List (List ℕ)) → piece ≡ unread → left ≡ drop n unread
    → ((stream : List ℕ) (before : List (List ℕ)) → HasTaken stream before held → HasTaken (stream ++ take n piece) (before ++ given_at step bytes) later)
    → given_at step bytes ≡ frames → TakesFront held unread later left frames
takes_front held later unread left piece bytes n step frames same rest fed given = (
  n,
  rest,
  λ stream before has. subst (λ (xs : List ℕ). HasTaken (stream ++ take n xs) (before ++ frames) later) same
      (subst (λ (fs : List (List ℕ)). HasTaken (stream ++ take n piece) (before ++ fs) later) given (fed stream before has)),
)

-- a frame that was copied to the front of a buffer
pub copied_front : (bytes frame copied rest : List ℕ) → frame ≡ bytes → copied ≡ frame → bytes ∷ [] ≡ take (length frame) (copied ++ rest) ∷ []
copied_front bytes frame copied rest same copy =
    ap (λ (xs : List ℕ). xs ∷ []) (sym same ∙ sym (take-append_seam frame rest) ∙ ap (λ (xs : List ℕ). take (length frame) (xs ++ rest)) (sym copy))

module _ {T : Type 0} (remaining contents : T → Option (List ℕ)) (id : ℕ) where
  done_more : (made now later : T) (turns : List Turn) (turn : Turn) → WereDone remaining contents id made now turns → WasDone remaining contents id now later turn
      → WereDone remaining contents id made later (turns ++ turn ∷ [])
  done_more made now later [] turn same done = (later, subst (λ (s : T). WasDone remaining contents id s later turn) same done, refl)
  done_more made now later (first ∷ turns) turn all done = (all.0, all.1, done_more all.0 now later turns turn all.2 done)

  -- nothing was done yet
  pub run_begins : (made : T) (held : Held) → HasTaken [] [] held → HasRun remaining contents id made made held [] []
  run_begins made held has = record { turns = []; are_all = refl; taken = []; has_taken = has; whole = refl }

  -- a turn by which no bytes came
  run_turns : (made now later : T) (held : Held) (unread : List ℕ) (frames : List (List ℕ)) (turn : Turn) → read_in turn ≡ [] → WasDone remaining contents id now later turn
      → HasRun remaining contents id made now held unread frames → HasRun remaining contents id made later held unread frames
  run_turns made now later held unread frames turn none done has = record {
    turns = has.turns ++ turn ∷ [];
    are_all = done_more made now later has.turns turn has.are_all done;
    taken = has.taken;
    has_taken = has.has_taken;
    whole = flat_map-append read_in has.turns (turn ∷ []) ∙ ap (λ (xs : List ℕ). flat_map read_in has.turns ++ (xs ++ [])) none ∙ append-nil (flat_map read_in has.turns) ∙ has.whole;
  }

  -- a command was told, or not whole
  pub run_tells : (made now later : T) (held : Held) (unread : List ℕ) (frames : List (List ℕ)) (command : Command)
      → WasWritten now later → Appends (contents now) (contents later) (spelling_of (command_fields id 0 command))
      → HasRun remaining contents id made now held unread frames → HasRun remaining contents id made later held unread frames
  run_tells made now later held unread frames command written done has = run_turns made now later held unread frames (DidTell command) refl (written, done) has

  pub run_fails : (made now later : T) (held : Held) (unread : List ℕ) (frames : List (List ℕ)) (command : Command) → WasWritten now later
      → HasRun remaining contents id made now held unread frames → HasRun remaining contents id made later held unread frames
  run_fails made now later held unread frames command written has = run_turns made now later held unread frames (FailedToTell command) refl written has

  -- bytes were read, where none was left
  pub run_reads : (made now later : T) (held : Held) (unread bytes : List ℕ) (frames : List (List ℕ)) → unread ≡ [] → Consumes (remaining now) (remaining later) bytes
      → HasRun remaining contents id made now held unread frames → HasRun remaining contents id made later held bytes frames
  run_reads made now later held unread bytes frames none came has = record {
    turns = has.turns ++ DidRead bytes ∷ [];
    are_all = done_more made now later has.turns (DidRead bytes) has.are_all came;
    taken = has.taken;
    has_taken = has.has_taken;
    whole = flat_map-append read_in has.turns (DidRead bytes ∷ []) ∙ ap (λ (xs : List ℕ). flat_map read_in has.turns ++ xs) (append-nil bytes) ∙ ap (λ (xs : List ℕ). xs ++ bytes) has.whole
        ∙ ap (λ (xs : List ℕ). (has.taken ++ xs) ++ bytes) none ∙ ap (λ (xs : List ℕ). xs ++ bytes) (append-nil has.taken);
  }

  -- a read failed, where none was left
  pub run_keeps : (made now later : T) (held : Held) (unread left : List ℕ) (frames : List (List ℕ)) → unread ≡ [] → (left ≡ []) × Keeps (remaining now) (remaining later)
      → HasRun remaining contents id made now held unread frames → HasRun remaining contents id made later held left frames
  run_keeps made now later held unread left frames none kept has = run_reads made now later held unread left frames none (kept_none (remaining now) (remaining later) left kept.0 kept.1) has

  -- a framer took some of what was unread
  pub run_feeds : (made now : T) (held later : Held) (unread left : List ℕ) (frames more : List (List ℕ)) → TakesFront held unread later left more
      → HasRun remaining contents id made now held unread frames → HasRun remaining contents id made now later left (frames ++ more)
  run_feeds made now held later unread left frames more front has = record {
    turns = has.turns;
    are_all = has.are_all;
    taken = has.taken ++ take front.0 unread;
    has_taken = front.2 has.taken frames has.has_taken;
    whole = has.whole ∙ ap (λ (xs : List ℕ). has.taken ++ xs) (sym (take-append-drop front.0 unread)) ∙ sym (append_assoc has.taken (take front.0 unread) (drop front.0 unread))
        ∙ ap (λ (xs : List ℕ). (has.taken ++ take front.0 unread) ++ xs) (sym front.1);
  }

  -- a stream more has ended
  pub ended_more : (made : List T) (frames : List (List (List ℕ))) (one : T) (latest : List (List ℕ)) → HaveEnded remaining contents id made frames → HasEnded remaining contents id one latest
      → HaveEnded remaining contents id (made ++ one ∷ []) (frames ++ latest ∷ [])
  ended_more [] [] one latest all ended = (ended, tt)
  ended_more [] (first ∷ frames) one latest all ended = absurd all
  ended_more (first ∷ made) [] one latest all ended = absurd all
  ended_more (first ∷ made) (its ∷ frames) one latest all ended = (all.0, ended_more made frames one latest all.1 ended)

  pub ends : (made now : T) (held : Held) (unread : List ℕ) (frames : List (List ℕ)) → HasRun remaining contents id made now held unread frames → IsDone held unread
      → WasLetGo now → HasEnded remaining contents id made frames
  ends made now held unread frames has done gone = record { last = now; held = held; unread = unread; has_run = has; is_done = done; was_let_go = gone }
