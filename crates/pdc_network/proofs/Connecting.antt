-- What a connection gave, and one call or one turn more.
use Rattle.std.proofs.Common.{◌≡◌, arith, ℕ, List, [], ◌∷◌, ◌++◌, ap, append_assoc, ◌∙◌, refl, subst, sym, Option, None, Some, Ok, Err, map, inl}
use Rattle.std.proofs.lemmas.List.{append-nil}
use Rattle.std.proofs.lemmas.List.Elements.{All-nil}
use Rattle.std.proofs.lemmas.List.Concat.{flat_map-append}
use Rattle.std.specs.List.{flat_map}
use Rattle.std.specs.declared.io.Error.{Error}
use Rattle.std.specs.declared.net.socket_addr.SocketAddr.{SocketAddr}
use Rattle.pdc_frame.specs.Stream.{Held, HasTaken}
use Rattle.pdc_frame.specs.declared.step.Step.TheVariants.{More}
use Rattle.pdc_ports.specs.Heard.{Heard, Gave, Idled}
use Rattle.pdc_network.specs.Connected.{HasGivenAll, IsLast, MayEnd}
use Rattle.pdc_network.specs.Dialed.{Dialed, made_of}
use Rattle.pdc_network.specs.Received.{unless_idle}
use Rattle.pdc_network.specs.Streamed.{BringsNothing, HasRun, HaveEnded, IsDone, WasLetGo}
use Rattle.pdc_network.proofs.Running.{ended_more, ends, run_begins}

-- frames, as they are heard
unless_idle-gave : (frames : List (List ℕ)) → flat_map unless_idle (map Gave frames) ≡ map Gave frames
unless_idle-gave [] = refl
unless_idle-gave (frame ∷ frames) = ap (λ xs. Gave frame ∷ xs) (unless_idle-gave frames)

map-append : (xs ys : List (List ℕ)) → map Gave (xs ++ ys) ≡ map Gave xs ++ map Gave ys
map-append [] ys = refl
map-append (x ∷ xs) ys = ap (λ zs. Gave x ∷ zs) (map-append xs ys)

abbrev joined : List (List (List ℕ)) → List (List ℕ)
joined frames = flat_map (λ one. one) frames

joined-last : (before : List (List (List ℕ))) (latest : List (List ℕ)) → joined (before ++ latest ∷ []) ≡ joined before ++ latest
joined-last before latest = flat_map-append (λ one. one) before (latest ∷ []) ∙ ap (λ xs. joined before ++ xs) (append-nil latest)

-- a framer that took nothing yet
abbrev no_bytes : Held
no_bytes = record { bytes = []; step = More; room = 0 }

nothing_taken : HasTaken [] [] no_bytes
nothing_taken = record {
  whole = refl;
  each = All-nil _;
  at = record {
    first = λ le. absurd (omega (arith, le));
    sync = λ le. absurd (omega (arith, le));
    size = λ le. absurd (omega (arith, le));
    more = λ le. absurd (omega (arith, le));
  };
}

module _ {D T : Type 0} (dialed : D → List (Dialed T) → Type 0) (remaining contents : T → Option (List ℕ)) (id : ℕ) where
  -- a stream of which nothing came yet
  begins : (one made last : T) (held : Held) → made ≡ one → BringsNothing remaining contents id made last → HasTaken [] [] held → HasRun remaining contents id one last held [] []
  begins one made last held same brings taken = subst (λ (s : T). HasRun remaining contents id s last held [] []) same (brings made held [] [] (run_begins remaining contents id made held taken))

  -- a call more made these streams
  made_more : (calls : List (Dialed T)) (call : Dialed T) → flat_map made_of (calls ++ call ∷ []) ≡ flat_map made_of calls ++ made_of call
  made_more calls call = flat_map-append made_of calls (call ∷ []) ∙ ap (λ xs. flat_map made_of calls ++ xs) (append-nil (made_of call))

  -- No stream was made.
  pub refused : (dialer later : D) (held new : Held) (unread left : List ℕ) (heard : List Heard) (to : SocketAddr) (error : Error)
      → ((calls : List (Dialed T)) → dialed dialer calls → dialed later (calls ++ record { to = to; answer = Err error } ∷ []))
      → HasGivenAll dialed remaining contents id dialer None held unread heard → HasGivenAll dialed remaining contents id later None new left heard
  refused dialer later held new unread left heard to error tells has = record {
    calls = has.calls ++ record { to = to; answer = Err error } ∷ [];
    are_all = tells has.calls has.are_all;
    frames = has.frames;
    have_come = subst (λ made. HaveEnded remaining contents id made has.frames) (sym (made_more has.calls (record { to = to; answer = Err error }) ∙ append-nil (flat_map made_of has.calls))) has.have_come;
    same = has.same;
  }

  -- A stream was made, and ended before anything came.
  pub failed : (dialer later : D) (held new fresh : Held) (unread left : List ℕ) (heard : List Heard) (to : SocketAddr) (one now : T)
      → ((calls : List (Dialed T)) → dialed dialer calls → dialed later (calls ++ record { to = to; answer = Ok one } ∷ []))
      → HasRun remaining contents id one now fresh [] [] → WasLetGo now
      → HasGivenAll dialed remaining contents id dialer None held unread heard → HasGivenAll dialed remaining contents id later None new left heard
  failed dialer later held new fresh unread left heard to one now tells run gone has = record {
    calls = has.calls ++ record { to = to; answer = Ok one } ∷ [];
    are_all = tells has.calls has.are_all;
    frames = has.frames ++ [] ∷ [];
    have_come = subst (λ made. HaveEnded remaining contents id made (has.frames ++ [] ∷ [])) (sym (made_more has.calls (record { to = to; answer = Ok one })))
        (ended_more remaining contents id (flat_map made_of has.calls) has.frames one [] has.have_come (ends remaining contents id one now fresh [] [] run (inl refl) gone));
    same = has.same ∙ ap (map Gave) (sym (joined-last has.frames [] ∙ append-nil (joined has.frames)));
  }

  -- A stream was made, and is there.
  pub opened : (dialer later : D) (held fresh : Held) (unread : List ℕ) (heard : List Heard) (to : SocketAddr) (one now : T)
      → ((calls : List (Dialed T)) → dialed dialer calls → dialed later (calls ++ record { to = to; answer = Ok one } ∷ []))
      → HasRun remaining contents id one now fresh [] []
      → HasGivenAll dialed remaining contents id dialer None held unread heard → HasGivenAll dialed remaining contents id later (Some now) fresh [] heard
  opened dialer later held fresh unread heard to one now tells run has = record {
    calls = has.calls ++ record { to = to; answer = Ok one } ∷ [];
    are_all = tells has.calls has.are_all;
    frames = has.frames ++ [] ∷ [];
    have_come = record {
      others = flat_map made_of has.calls;
      one = one;
      in_order = made_more has.calls (record { to = to; answer = Ok one });
      before = has.frames;
      latest = [];
      one_by_one = refl;
      have_ended = has.have_come;
      has_run = run;
    };
    same = has.same ∙ ap (map Gave) (sym (joined-last has.frames [] ∙ append-nil (joined has.frames)));
  }

  -- The stream is let go.
  pub lost : (dialer : D) (now : T) (held new : Held) (unread left : List ℕ) (heard : List Heard) → IsDone held unread → WasLetGo now
      → HasGivenAll dialed remaining contents id dialer (Some now) held unread heard → HasGivenAll dialed remaining contents id dialer None new left heard
  lost dialer now held new unread left heard done gone has =
      let last : IsLast remaining contents id (flat_map made_of has.calls) now held unread has.frames = has.have_come in
      record {
        calls = has.calls;
        are_all = has.are_all;
        frames = has.frames;
        have_come = subst (λ made. HaveEnded remaining contents id made has.frames) (sym last.in_order)
            (subst (λ frames. HaveEnded remaining contents id (last.others ++ last.one ∷ []) frames) (sym last.one_by_one)
            (ended_more remaining contents id last.others last.before last.one last.latest last.have_ended (ends remaining contents id last.one now held unread last.latest last.has_run done gone)));
        same = has.same;
      }

  -- Something was done with the stream, and these frames more came of it.
  pub went_on : (dialer : D) (now later : T) (held new : Held) (unread left : List ℕ) (heard : List Heard) (more : List (List ℕ))
      → ((made : T) (frames : List (List ℕ)) → HasRun remaining contents id made now held unread frames → HasRun remaining contents id made later new left (frames ++ more))
      → HasGivenAll dialed remaining contents id dialer (Some now) held unread heard → HasGivenAll dialed remaining contents id dialer (Some later) new left (heard ++ map Gave more)
  went_on dialer now later held new unread left heard more runs has =
      let last : IsLast remaining contents id (flat_map made_of has.calls) now held unread has.frames = has.have_come in
      record {
        calls = has.calls;
        are_all = has.are_all;
        frames = last.before ++ (last.latest ++ more) ∷ [];
        have_come = record {
          others = last.others;
          one = last.one;
          in_order = last.in_order;
          before = last.before;
          latest = last.latest ++ more;
          one_by_one = refl;
          have_ended = last.have_ended;
          has_run = runs last.one last.latest last.has_run;
        };
        same = flat_map-append unless_idle heard (map Gave more) ∙ ap (λ xs. flat_map unless_idle heard ++ xs) (unless_idle-gave more) ∙ ap (λ xs. xs ++ map Gave more) has.same
            ∙ sym (map-append (joined has.frames) more) ∙ ap (map Gave) (ap (λ xs. joined xs ++ more) last.one_by_one ∙ ap (λ xs. xs ++ more) (joined-last last.before last.latest)
            ∙ append_assoc (joined last.before) last.latest more ∙ sym (joined-last last.before (last.latest ++ more)));
      }

  -- A pause was heard.
  pub paused : (dialer : D) (now : Option T) (held : Held) (unread : List ℕ) (heard : List Heard)
      → HasGivenAll dialed remaining contents id dialer now held unread heard → HasGivenAll dialed remaining contents id dialer now held unread (heard ++ Idled ∷ [])
  paused dialer now held unread heard has = record {
    calls = has.calls;
    are_all = has.are_all;
    frames = has.frames;
    have_come = has.have_come;
    same = flat_map-append unless_idle heard (Idled ∷ []) ∙ append-nil (flat_map unless_idle heard) ∙ has.same;
  }

  -- The same of a connection that may have a stream: one that has none and fails to make one,
  pub fails_to_open : (dialer later : D) (now : Option T) (held : Held) (unread : List ℕ) (to : SocketAddr) (one made last : T) → now ≡ None
      → ((calls : List (Dialed T)) → dialed dialer calls → dialed later (calls ++ record { to = to; answer = Ok one } ∷ []))
      → made ≡ one → BringsNothing remaining contents id made last → WasLetGo last → (heard : List Heard)
      → HasGivenAll dialed remaining contents id dialer now held unread heard → HasGivenAll dialed remaining contents id later now held unread heard
  fails_to_open dialer later now held unread to one made last none tells same brings gone heard has =
      subst (λ (s : Option T). HasGivenAll dialed remaining contents id later s held unread heard) (sym none)
      (failed dialer later held held no_bytes unread unread heard to one last tells (begins one made last no_bytes same brings nothing_taken) gone
      (subst (λ (s : Option T). HasGivenAll dialed remaining contents id dialer s held unread heard) none has))

  -- one that has none and makes one,
  pub opens : (dialer later : D) (now : Option T) (held fresh : Held) (unread left : List ℕ) (to : SocketAddr) (one made last : T) → now ≡ None
      → ((calls : List (Dialed T)) → dialed dialer calls → dialed later (calls ++ record { to = to; answer = Ok one } ∷ []))
      → made ≡ one → BringsNothing remaining contents id made last → HasTaken [] [] fresh → left ≡ [] → (heard : List Heard)
      → HasGivenAll dialed remaining contents id dialer now held unread heard → HasGivenAll dialed remaining contents id later (Some last) fresh left heard
  opens dialer later now held fresh unread left to one made last none tells same brings taken empty heard has =
      subst (λ (xs : List ℕ). HasGivenAll dialed remaining contents id later (Some last) fresh xs heard) (sym empty)
      (opened dialer later held fresh unread heard to one last tells (begins one made last fresh same brings taken)
      (subst (λ (s : Option T). HasGivenAll dialed remaining contents id dialer s held unread heard) none has))

  -- one of whose stream something came,
  pub goes_on : (dialer : D) (now : Option T) (before later : T) (held new : Held) (unread left : List ℕ) (more : List (List ℕ)) → now ≡ Some before
      → ((made : T) (frames : List (List ℕ)) → HasRun remaining contents id made before held unread frames → HasRun remaining contents id made later new left (frames ++ more))
      → (heard : List Heard) → HasGivenAll dialed remaining contents id dialer now held unread heard
      → HasGivenAll dialed remaining contents id dialer (Some later) new left (heard ++ map Gave more)
  goes_on dialer now before later held new unread left more some runs heard has =
      went_on dialer before later held new unread left heard more runs (subst (λ (s : Option T). HasGivenAll dialed remaining contents id dialer s held unread heard) some has)

  -- and one that lets its stream go.
  pub lets_go : (dialer : D) (now later : Option T) (last : T) (held : Held) (unread : List ℕ) → now ≡ Some last → later ≡ None → MayEnd now held unread → WasLetGo last
      → (heard : List Heard) → HasGivenAll dialed remaining contents id dialer now held unread heard → HasGivenAll dialed remaining contents id dialer later held unread heard
  lets_go dialer now later last held unread some none may gone heard has =
      subst (λ (s : Option T). HasGivenAll dialed remaining contents id dialer s held unread heard) (sym none)
      (lost dialer last held held unread unread heard (subst (λ (s : Option T). MayEnd s held unread) some may) gone
      (subst (λ (s : Option T). HasGivenAll dialed remaining contents id dialer s held unread heard) some has))
