-- A session over a whole stream: one piece more, and that two ways to cut a stream are answered alike.
use Rattle.std.specs.List.{All}
use Rattle.std.proofs.lemmas.List.{get_or-append-add}
use Rattle.std.proofs.Common.{◌≡◌, ℕ, ◌+◌, ◌<◌, ◌≤◌, List, [], ◌∷◌, ◌++◌, length, take, drop, Option, Some, None, Result, Ok, Err, refl, sym, ap, subst, ◌∙◌, append_assoc}
use Rattle.std.specs.Prelude.{slice_index, flat_map, IsErrOf, OnOk}
use Rattle.std.proofs.lemmas.List.{append-nil, take-append-drop}
use Rattle.std.proofs.lemmas.List.Elements.{All-append}
use Rattle.std.proofs.lemmas.Grind.{flat_map-append}
use Rattle.pdc_frame.specs.Bytes.{AreBytes}
use Rattle.pdc_frame.specs.declared.fault.FrameFault.{FrameFault}
use Rattle.pdc_frame.specs.declared.step.Step.{Step}
use Rattle.pdc_frame.specs.declared.step.Step.TheVariants.{More, Whole, Bad}
use Rattle.pdc_frame.specs.Frame.{Fields, IsFrame}
use Rattle.pdc_frame.specs.Stream.{Held, HasTaken, IsBad, IsWhole, Splits, fault_of, pending_of}
use Rattle.pdc_frame.specs.Command.{IsCommand}
use Rattle.pdc_frame.specs.declared.command.Command.{Command}
use Rattle.pdc_session.specs.declared.fault.SessionFault.{SessionFault}
use Rattle.pdc_session.specs.declared.fault.SessionFault.TheVariants.{BadStream, NoMemory}
use Rattle.pdc_session.specs.declared.subscription.Subscription.{Subscription}
use Rattle.pdc_session.specs.declared.serving.Serving.{Serving}
use Rattle.pdc_session.specs.Session.{AreTold, HasAnswered, LacksOne, SessionView, Tells, replies_of, reply_of, told_after_all}
use Rattle.pdc_session.specs.Served.{AreFed, HasServed, IsNew, Stands, told_nothing}
use Rattle.pdc_session.proofs.Hearing.{after-append, told-append}

-- ---- what the laws of streams, frames and commands say

abbrev pub FramerLaw : Type 0
FramerLaw = (stream unread : List ℕ) (frames : List (List ℕ)) (held : Held) → HasTaken stream frames held
    → (fault_of held.step ≡ None → unread ≡ []) → Splits (stream ++ unread) frames (pending_of held.step held.bytes ++ unread) (fault_of held.step)

abbrev pub OneSplit : Type 0
OneSplit = (stream : List ℕ) (frames others : List (List ℕ)) (rest other : List ℕ) (fault late : Option FrameFault)
    → Splits stream frames rest fault → Splits stream others other late → (frames ≡ others) × (rest ≡ other) × (fault ≡ late)

abbrev pub OneFrame : Type 0
OneFrame = (bytes : List ℕ) (f g : Fields) → IsFrame bytes f → IsFrame bytes g → f ≡ g

abbrev pub OneCommand : Type 0
OneCommand = (f : Fields) (a b : Command) → IsCommand f a → IsCommand f b → a ≡ b

-- ---- one piece more

abbrev pub view : ℕ → Held → Subscription → Option SessionFault → SessionView
view id held told ended = record { id = id; held = held; told = told; ended = ended }

told_more : (told after later : Subscription) (commands more : List (Option Command)) → after ≡ told_after_all told commands → later ≡ told_after_all after more → later ≡ told_after_all told (commands ++ more)
told_more told after later commands more e h = h ∙ ap (λ (t : Subscription). told_after_all t more) e ∙ sym (after-append told commands more)

replied_more : (id : ℕ) (serving : Serving) (base out grown : List ℕ) (answered more : List (Option Command)) → out ≡ base ++ replies_of id serving answered → grown ≡ out ++ replies_of id serving more
    → grown ≡ base ++ replies_of id serving (answered ++ more)
replied_more id serving base out grown answered more e h =
    h ∙ ap (λ (xs : List ℕ). xs ++ replies_of id serving more) e ∙ append_assoc base (replies_of id serving answered) (replies_of id serving more)
    ∙ ap (λ (xs : List ℕ). base ++ xs) (sym (flat_map-append (reply_of id serving) answered more))

served_ok : (id : ℕ) (serving : Serving) (piece stream base : List ℕ) (held later : Held) (told after : Subscription) (out grown : List ℕ)
    → HasAnswered id serving piece held told out later after grown → (IsBad later.step → ⊥)
    → HasServed serving stream base (view id held told None) out → HasServed serving (stream ++ piece) base (view id later after None) grown
served_ok id serving piece stream base held later told after out grown h good s = record {
  frames = s.frames ++ h.frames;
  commands = s.commands ++ h.commands;
  answered = s.answered ++ h.commands;
  tells = told-append id s.frames h.frames s.commands h.commands s.tells h.hears.tells;
  told = told_more told_nothing told after s.commands h.commands s.told h.hears.told_then;
  replies = replied_more id serving base out grown s.answered h.commands s.replies h.replies;
  stands = (ap (λ (cs : List (Option Command)). cs ++ h.commands) s.stands.0, h.hears.stream stream s.frames s.stands.1, good);
}

bad_fault : (step : Step) → IsBad step → (fault : FrameFault) × (fault_of step ≡ Some fault)
bad_fault More h = absurd h
bad_fault Whole h = absurd h
bad_fault (Bad fault) h = (fault, refl)

all_of : (stream piece : List ℕ) (n : ℕ) → (stream ++ take n piece) ++ drop n piece ≡ stream ++ piece
all_of stream piece n = append_assoc stream (take n piece) (drop n piece) ∙ ap (λ (xs : List ℕ). stream ++ xs) (take-append-drop n piece)

served_bad : FramerLaw → (id : ℕ) (serving : Serving) (piece stream base : List ℕ) (n : ℕ) (held later : Held) (told after : Subscription) (out grown : List ℕ)
    → HasAnswered id serving (take n piece) held told out later after grown → IsBad later.step
    → HasServed serving stream base (view id held told None) out → HasServed serving (stream ++ piece) base (view id later after (Some BadStream)) grown
served_bad law id serving piece stream base n held later told after out grown h bad s =
    let found : (fault : FrameFault) × (fault_of later.step ≡ Some fault) = bad_fault later.step bad in
    let frames : List (List ℕ) = s.frames ++ h.frames in
    let rest : List ℕ = pending_of later.step later.bytes ++ drop n piece in
    let split : Splits ((stream ++ take n piece) ++ drop n piece) frames rest (fault_of later.step) =
    law (stream ++ take n piece) (drop n piece) frames later (h.hears.stream stream s.frames s.stands.1) (λ none. let no : None ≡ Some found.0 = sym none ∙ found.1 in cc) in
    record {
      frames = frames;
      commands = s.commands ++ h.commands;
      answered = s.answered ++ h.commands;
      tells = told-append id s.frames h.frames s.commands h.commands s.tells h.hears.tells;
      told = told_more told_nothing told after s.commands h.commands s.told h.hears.told_then;
      replies = replied_more id serving base out grown s.answered h.commands s.replies h.replies;
      stands = (
        ap (λ (cs : List (Option Command)). cs ++ h.commands) s.stands.0,
        rest,
        found.0,
        subst (λ (xs : List ℕ). Splits xs frames rest (Some found.0)) (all_of stream piece n) (subst (λ (f : Option FrameFault). Splits ((stream ++ take n piece) ++ drop n piece) frames rest f) found.1 split),
      );
    }

served_lacking : (id : ℕ) (serving : Serving) (piece stream base : List ℕ) (n : ℕ) (held later : Held) (told after : Subscription) (out grown : List ℕ) (room : ℕ) (Refused : ℕ → Type 0)
    → LacksOne id serving (take n piece) held told out later after grown room Refused
    → HasServed serving stream base (view id held told None) out → HasServed serving (stream ++ piece) base (view id later after (Some NoMemory)) grown
served_lacking id serving piece stream base n held later told after out grown room Refused h s =
    let taken : HasTaken (stream ++ take n piece) (s.frames ++ h.frames) later = h.hears.stream stream s.frames s.stands.1 in
    let rest : List ℕ = pending_of later.step later.bytes ++ drop n piece in
    let frames : List ℕ = flat_map (λ (frame : List ℕ). frame) (s.frames ++ h.frames) in
    record {
      frames = s.frames ++ h.frames;
      commands = s.commands ++ (h.commands ++ h.last ∷ []);
      answered = s.answered ++ h.commands;
      tells = told-append id s.frames h.frames s.commands (h.commands ++ h.last ∷ []) s.tells h.hears.tells;
      told = told_more told_nothing told after s.commands (h.commands ++ h.last ∷ []) s.told h.hears.told_then;
      replies = replied_more id serving base out grown s.answered h.commands s.replies h.replies;
      stands = (
        h.last,
        ap (λ (cs : List (Option Command)). cs ++ (h.commands ++ h.last ∷ [])) s.stands.0 ∙ sym (append_assoc s.answered h.commands (h.last ∷ [])),
        rest,
        sym (all_of stream piece n) ∙ ap (λ (xs : List ℕ). xs ++ drop n piece) taken.whole ∙ append_assoc frames (pending_of later.step later.bytes) (drop n piece),
        taken.each,
      );
    }

-- a session that has ended stays as it was, whatever comes
still_stands : (fault : SessionFault) (stream piece : List ℕ) (frames : List (List ℕ)) (commands answered : List (Option Command)) (held : Held)
    → Stands (Some fault) stream frames commands answered held → Stands (Some fault) (stream ++ piece) frames commands answered held
still_stands BadStream stream piece frames commands answered held h =
    let split : Splits stream frames h.1 (Some h.2) = h.3 in
    let shown : List ℕ = split.end.0 in
    let more : List ℕ = split.end.1 in (
      h.0,
      h.1 ++ piece,
      h.2,
      record {
        whole = ap (λ (xs : List ℕ). xs ++ piece) split.whole ∙ append_assoc (flat_map (λ (frame : List ℕ). frame) frames) h.1 piece;
        each = split.each;
        end = (shown, more ++ piece, ap (λ (xs : List ℕ). xs ++ piece) split.end.2 ∙ append_assoc shown more piece, split.end.3);
      },
    )
still_stands NoMemory stream piece frames commands answered held h = (
  h.0,
  h.1,
  h.2 ++ piece,
  ap (λ (xs : List ℕ). xs ++ piece) h.3 ∙ append_assoc (flat_map (λ (frame : List ℕ). frame) frames) h.2 piece,
  h.4,
)

pub served_still : (serving : Serving) (stream piece base : List ℕ) (fault : SessionFault) (s : SessionView) (out : List ℕ) → s.ended ≡ Some fault
    → HasServed serving stream base s out → HasServed serving (stream ++ piece) base s out
served_still serving stream piece base fault s out e h = record {
  frames = h.frames;
  commands = h.commands;
  answered = h.answered;
  tells = h.tells;
  told = h.told;
  replies = h.replies;
  stands = subst (λ (ended : Option SessionFault). Stands ended (stream ++ piece) h.frames h.commands h.answered s.held) (sym e)
      (still_stands fault stream piece h.frames h.commands h.answered s.held (subst (λ (ended : Option SessionFault). Stands ended stream h.frames h.commands h.answered s.held) e h.stands));
}

-- how an answer ends a session
abbrev pub Ends : {T : Type 0} → Result T SessionFault → Option SessionFault → Type 0
Ends (Ok done) ended = ended ≡ None
Ends (Err fault) ended = ended ≡ Some fault

pub served_more : {T : Type 0} → FramerLaw → (id : ℕ) (serving : Serving) (piece stream base : List ℕ) (held later : Held) (told after : Subscription) (out grown : List ℕ) (room : ℕ) (Refused : ℕ → Type 0)
    (answer : Result T SessionFault) (ended : Option SessionFault) → Ends answer ended → OnOk answer (IsBad later.step → ⊥)
    → OnOk answer (HasAnswered id serving piece held told out later after grown)
    → (IsErrOf answer BadStream → IsBad later.step × (n : ℕ) × (n ≤ length piece) × HasAnswered id serving (take n piece) held told out later after grown)
    → (IsErrOf answer NoMemory → (n : ℕ) × (n ≤ length piece) × LacksOne id serving (take n piece) held told out later after grown room Refused)
    → HasServed serving stream base (view id held told None) out → HasServed serving (stream ++ piece) base (view id later after ended) grown
served_more law id serving piece stream base held later told after out grown room Refused (Ok done) ended e good ok bad memory s =
    subst (λ (x : Option SessionFault). HasServed serving (stream ++ piece) base (view id later after x) grown) (sym e) (served_ok id serving piece stream base held later told after out grown ok good s)
served_more law id serving piece stream base held later told after out grown room Refused (Err BadStream) ended e good ok bad memory s =
    let h : IsBad later.step × (n : ℕ) × (n ≤ length piece) × HasAnswered id serving (take n piece) held told out later after grown = bad refl in
    subst (λ (x : Option SessionFault). HasServed serving (stream ++ piece) base (view id later after x) grown) (sym e) (served_bad law id serving piece stream base h.1 held later told after out grown h.3 h.0 s)
served_more law id serving piece stream base held later told after out grown room Refused (Err NoMemory) ended e good ok bad memory s =
    let h : (n : ℕ) × (n ≤ length piece) × LacksOne id serving (take n piece) held told out later after grown room Refused = memory refl in
    subst (λ (x : Option SessionFault). HasServed serving (stream ++ piece) base (view id later after x) grown) (sym e) (served_lacking id serving piece stream base h.0 held later told after out grown room Refused h.2 s)

-- ---- piece after piece

pub served_new : (serving : Serving) (base : List ℕ) (s : SessionView) → IsNew s → HasServed serving [] base s base
served_new serving base s h = record {
  frames = [];
  commands = [];
  answered = [];
  tells = tt;
  told = h.told;
  replies = sym (append-nil base);
  stands = subst (λ (ended : Option SessionFault). Stands ended [] [] [] [] s.held) (sym h.ended) (refl, h.stream, λ bad. subst IsBad h.step bad);
}

pub served_pieces : (serving : Serving) (pieces : List (List ℕ)) (s t : SessionView) (stream base out grown : List ℕ) → AreFed serving pieces s out t grown
    → HasServed serving stream base s out → HasServed serving (stream ++ flat_map (λ (piece : List ℕ). piece) pieces) base t grown
served_pieces serving [] s t stream base out grown fed h =
    subst (λ (xs : List ℕ). HasServed serving xs base t grown) (sym (append-nil stream)) (subst (λ (v : SessionView). HasServed serving stream base v grown) fed.0 (subst (λ (xs : List ℕ). HasServed serving stream base s xs) fed.1 h))
served_pieces serving (piece ∷ pieces) s t stream base out grown fed h =
    subst (λ (xs : List ℕ). HasServed serving xs base t grown) (append_assoc stream piece (flat_map (λ (p : List ℕ). p) pieces))
    (served_pieces serving pieces fed.0 t (stream ++ piece) base fed.1 grown fed.3 (fed.2 stream base h))

-- ---- two ways to cut a stream

one_told : OneCommand → (id : ℕ) (f : Fields) (a b : Option Command) → Tells id f a → Tells id f b → a ≡ b
one_told law id f (Some a) (Some b) h k = ap Some (law f a b h.1 k.1)
one_told law id f (Some a) None h k = absurd (k a h.0 h.1)
one_told law id f None (Some b) h k = absurd (h b k.0 k.1)
one_told law id f None None h k = refl

told_once : OneFrame → OneCommand → (id : ℕ) (frames : List (List ℕ)) (commands others : List (Option Command)) → AreTold id frames commands → AreTold id frames others → commands ≡ others
told_once frame law id [] [] [] h k = refl
told_once frame law id [] [] (d ∷ ds) h k = absurd k
told_once frame law id [] (c ∷ cs) others h k = absurd h
told_once frame law id (bytes ∷ frames) [] others h k = absurd h
told_once frame law id (bytes ∷ frames) (c ∷ cs) [] h k = absurd k
told_once frame law id (bytes ∷ frames) (c ∷ cs) (d ∷ ds) h k =
    let fields : h.0.0 ≡ k.0.0 = frame bytes h.0.0 k.0.0 h.0.1 k.0.1 in
    let first : c ≡ d = one_told law id k.0.0 c d (subst (λ (f : Fields). Tells id f c) fields h.0.2) k.0.2 in
    let rest : cs ≡ ds = told_once frame law id frames cs ds h.1 k.1 in
    ap (λ (x : Option Command). x ∷ cs) first ∙ ap (λ (xs : List (Option Command)). d ∷ xs) rest

-- how a stream ends a session
abbrev ended_by : Option FrameFault → Option SessionFault
ended_by None = None
ended_by (Some fault) = Some BadStream

good_fault : (step : Step) → (IsBad step → ⊥) → fault_of step ≡ None
good_fault More h = refl
good_fault Whole h = refl
good_fault (Bad fault) h = absurd (h tt)

record IsSplit (ended : Option SessionFault) (stream : List ℕ) (frames : List (List ℕ)) (commands answered : List (Option Command)) : Type 0 where
  rest : List ℕ
  fault : Option FrameFault
  split : Splits stream frames rest fault
  all : commands ≡ answered
  ended_so : ended ≡ ended_by fault

split_of : FramerLaw → (ended : Option SessionFault) (stream : List ℕ) (frames : List (List ℕ)) (commands answered : List (Option Command)) (held : Held) → (ended ≡ Some NoMemory → ⊥)
    → Stands ended stream frames commands answered held → IsSplit ended stream frames commands answered
split_of law None stream frames commands answered held enough h = record {
  rest = pending_of held.step held.bytes ++ [];
  fault = None;
  split = subst (λ (f : Option FrameFault). Splits stream frames (pending_of held.step held.bytes ++ []) f) (good_fault held.step h.2)
      (subst (λ (xs : List ℕ). Splits xs frames (pending_of held.step held.bytes ++ []) (fault_of held.step)) (append-nil stream) (law stream [] frames held h.1 (λ none. refl)));
  all = h.0;
  ended_so = refl;
}
split_of law (Some BadStream) stream frames commands answered held enough h = record { rest = h.1; fault = Some h.2; split = h.3; all = h.0; ended_so = refl }
split_of law (Some NoMemory) stream frames commands answered held enough h = absurd (enough refl)

pub one_answer : FramerLaw → OneSplit → OneFrame → OneCommand → (serving : Serving) (stream base : List ℕ) (s t : SessionView) (out grown : List ℕ) → s.id ≡ t.id
    → (s.ended ≡ Some NoMemory → ⊥) → (t.ended ≡ Some NoMemory → ⊥) → HasServed serving stream base s out → HasServed serving stream base t grown
    → (s.told ≡ t.told) × (s.ended ≡ t.ended) × (out ≡ grown)
one_answer framer split frame command serving stream base s t out grown same enough too h k =
    let a : IsSplit s.ended stream h.frames h.commands h.answered = split_of framer s.ended stream h.frames h.commands h.answered s.held enough h.stands in
    let b : IsSplit t.ended stream k.frames k.commands k.answered = split_of framer t.ended stream k.frames k.commands k.answered t.held too k.stands in
    let one : (h.frames ≡ k.frames) × (a.rest ≡ b.rest) × (a.fault ≡ b.fault) = split stream h.frames k.frames a.rest b.rest a.fault b.fault a.split b.split in
    let tells : AreTold t.id k.frames h.commands = subst (λ (id : ℕ). AreTold id k.frames h.commands) same (subst (λ (frames : List (List ℕ)). AreTold s.id frames h.commands) one.0 h.tells) in
    let commands : h.commands ≡ k.commands = told_once frame command t.id k.frames h.commands k.commands tells k.tells in
    let answered : h.answered ≡ k.answered = sym a.all ∙ commands ∙ b.all in (
      h.told ∙ ap (told_after_all told_nothing) commands ∙ sym k.told,
      a.ended_so ∙ ap ended_by one.2 ∙ sym b.ended_so,
      h.replies ∙ ap (λ (cs : List (Option Command)). base ++ replies_of s.id serving cs) answered ∙ ap (λ (id : ℕ). base ++ replies_of id serving k.answered) same ∙ sym k.replies,
    )

-- ---- a session that wanted memory beside one that did not

abbrev pub SomeSplit : Type 0
SomeSplit = (stream : List ℕ) → AreBytes stream → (frames : List (List ℕ)) × (rest : List ℕ) × (fault : Option FrameFault) × Splits stream frames rest fault

-- what the first frames tell is told first
told_first : OneFrame → OneCommand → (id : ℕ) (frames more : List (List ℕ)) (commands all : List (Option Command)) → AreTold id frames commands → AreTold id (frames ++ more) all
    → (others : List (Option Command)) × (all ≡ commands ++ others)
told_first frame law id [] more [] all h k = (all, refl)
told_first frame law id [] more (c ∷ cs) all h k = absurd h
told_first frame law id (bytes ∷ frames) more [] all h k = absurd h
told_first frame law id (bytes ∷ frames) more (c ∷ cs) [] h k = absurd k
told_first frame law id (bytes ∷ frames) more (c ∷ cs) (d ∷ ds) h k =
    let rest : (others : List (Option Command)) × (ds ≡ cs ++ others) = told_first frame law id frames more cs ds h.1 k.1 in
    let fields : h.0.0 ≡ k.0.0 = frame bytes h.0.0 k.0.0 h.0.1 k.0.1 in
    let first : c ≡ d = one_told law id k.0.0 c d (subst (λ (f : Fields). Tells id f c) fields h.0.2) k.0.2 in (
      rest.0,
      ap (λ (x : Option Command). x ∷ ds) (sym first) ∙ ap (λ (xs : List (Option Command)). c ∷ xs) rest.1,
    )

rest_bytes : (front rest stream : List ℕ) → stream ≡ front ++ rest → AreBytes stream → AreBytes rest
rest_bytes front rest stream e bytes i = let at : slice_index (front ++ rest) (length front + i) ≡ slice_index rest i = get_or-append-add front rest i 0 in let there : slice_index (front ++ rest) (length front + i) < 256 = subst AreBytes e bytes (length front + i) in subst (λ (n : ℕ). n < 256) at there

joined_split : (stream rest behind : List ℕ) (frames more : List (List ℕ)) (fault : Option FrameFault) → stream ≡ flat_map (λ (frame : List ℕ). frame) frames ++ rest → All IsWhole frames → Splits rest more behind fault
    → Splits stream (frames ++ more) behind fault
joined_split stream rest behind frames more fault e each split = record {
  whole = e ∙ ap (λ (xs : List ℕ). flat_map (λ (frame : List ℕ). frame) frames ++ xs) split.whole ∙ sym (append_assoc (flat_map (λ (frame : List ℕ). frame) frames) (flat_map (λ (frame : List ℕ). frame) more) behind)
      ∙ ap (λ (xs : List ℕ). xs ++ behind) (sym (flat_map-append (λ (frame : List ℕ). frame) frames more));
  each = All-append IsWhole frames more each split.each;
  end = split.end;
}

longer_replies : (id : ℕ) (serving : Serving) (base out grown : List ℕ) (answered all more : List (Option Command)) → out ≡ base ++ replies_of id serving answered → grown ≡ base ++ replies_of id serving all → all ≡ answered ++ more
    → grown ≡ out ++ replies_of id serving more
longer_replies id serving base out grown answered all more e h is =
    h ∙ ap (λ (cs : List (Option Command)). base ++ replies_of id serving cs) is ∙ ap (λ (xs : List ℕ). base ++ xs) (flat_map-append (reply_of id serving) answered more)
    ∙ sym (append_assoc base (replies_of id serving answered) (replies_of id serving more)) ∙ ap (λ (xs : List ℕ). xs ++ replies_of id serving more) (sym e)

cut_short : FramerLaw → OneSplit → SomeSplit → OneFrame → OneCommand → (serving : Serving) (stream base : List ℕ) (id : ℕ) (t : SessionView) (out grown : List ℕ) (frames : List (List ℕ)) (commands answered : List (Option Command)) (held : Held)
    → AreBytes stream → id ≡ t.id → (t.ended ≡ Some NoMemory → ⊥) → AreTold id frames commands → out ≡ base ++ replies_of id serving answered → Stands (Some NoMemory) stream frames commands answered held → HasServed serving stream base t grown
    → (more : List ℕ) × (grown ≡ out ++ more)
cut_short framer only some frame command serving stream base id t out grown frames commands answered held bytes same enough tells replies stands k =
    let b : IsSplit t.ended stream k.frames k.commands k.answered = split_of framer t.ended stream k.frames k.commands k.answered t.held enough k.stands in
    let found = some stands.2 (rest_bytes (flat_map (λ (f : List ℕ). f) frames) stands.2 stream stands.3 bytes) in
    let one : (frames ++ found.0 ≡ k.frames) × (found.1 ≡ b.rest) × (found.2 ≡ b.fault) =
    only stream (frames ++ found.0) k.frames found.1 b.rest found.2 b.fault (joined_split stream stands.2 found.1 frames found.0 found.2 stands.3 stands.4 found.3) b.split in
    let told : AreTold id (frames ++ found.0) k.commands = subst (λ (fs : List (List ℕ)). AreTold id fs k.commands) (sym one.0) (subst (λ (n : ℕ). AreTold n k.frames k.commands) (sym same) k.tells) in
    let first : (others : List (Option Command)) × (k.commands ≡ commands ++ others) = told_first frame command id frames found.0 commands k.commands tells told in
    let all : k.answered ≡ answered ++ (stands.0 ∷ first.0) =
    sym b.all ∙ first.1 ∙ ap (λ (cs : List (Option Command)). cs ++ first.0) stands.1 ∙ append_assoc answered (stands.0 ∷ []) first.0 in (
      replies_of id serving (stands.0 ∷ first.0),
      longer_replies id serving base out grown answered k.answered (stands.0 ∷ first.0) replies (subst (λ (n : ℕ). grown ≡ base ++ replies_of n serving k.answered) (sym same) k.replies) all,
    )

cut_by : FramerLaw → OneSplit → SomeSplit → OneFrame → OneCommand → (serving : Serving) (stream base : List ℕ) (s t : SessionView) (out grown : List ℕ) (ended : Option SessionFault) → s.ended ≡ ended → AreBytes stream → s.id ≡ t.id
    → (t.ended ≡ Some NoMemory → ⊥) → HasServed serving stream base s out → HasServed serving stream base t grown → (more : List ℕ) × (grown ≡ out ++ more)
cut_by framer only some frame command serving stream base s t out grown None e bytes same enough h k =
    ([], sym (one_answer framer only frame command serving stream base s t out grown same (λ no. let other : None ≡ Some NoMemory = sym e ∙ no in cc) enough h k).2 ∙ sym (append-nil out))
cut_by framer only some frame command serving stream base s t out grown (Some BadStream) e bytes same enough h k =
    ([], sym (one_answer framer only frame command serving stream base s t out grown same (λ no. let other : Some BadStream ≡ Some NoMemory = sym e ∙ no in cc) enough h k).2 ∙ sym (append-nil out))
cut_by framer only some frame command serving stream base s t out grown (Some NoMemory) e bytes same enough h k =
    cut_short framer only some frame command serving stream base s.id t out grown h.frames h.commands h.answered s.held bytes same enough h.tells h.replies
    (subst (λ (ended : Option SessionFault). Stands ended stream h.frames h.commands h.answered s.held) e h.stands) k

pub memory_cuts_short : FramerLaw → OneSplit → SomeSplit → OneFrame → OneCommand → (serving : Serving) (stream base : List ℕ) (s t : SessionView) (out grown : List ℕ) → AreBytes stream → s.id ≡ t.id
    → (t.ended ≡ Some NoMemory → ⊥) → HasServed serving stream base s out → HasServed serving stream base t grown → (more : List ℕ) × (grown ≡ out ++ more)
memory_cuts_short framer only some frame command serving stream base s t out grown bytes same enough h k = cut_by framer only some frame command serving stream base s t out grown s.ended refl bytes same enough h k
