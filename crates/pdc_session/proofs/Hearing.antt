-- What a session heard of a piece, one frame after the other.
use Rattle.std.proofs.Common.{◌≡◌, ℕ, ◌+◌, ◌-◌, ◌*◌, ◌<◌, ◌≤◌, List, [], ◌∷◌, ◌++◌, length, take, drop, Option, refl, sym, ap, subst, ◌∙◌, arith, append_assoc, length-append, length-take, length-drop}
use Rattle.std.proofs.Math.Seq.{take-add}
use Rattle.std.proofs.lemmas.List.{take_all, append-nil}
use Rattle.std.proofs.lemmas.Grind.{flat_map-append}
use Rattle.pdc_frame.specs.declared.fault.FrameFault.{FrameFault}
use Rattle.pdc_frame.specs.declared.step.Step.{Step}
use Rattle.pdc_frame.specs.declared.step.Step.TheVariants.{More, Whole, Bad}
use Rattle.pdc_frame.specs.Frame.{Fields, IsFrame}
use Rattle.pdc_frame.specs.Stream.{Held, HasTaken, IsBad, given_at, pending_of}
use Rattle.pdc_frame.proofs.Framed.{length-spelling_of}
use Rattle.pdc_frame.specs.declared.command.Command.{Command}
use Rattle.pdc_session.specs.declared.subscription.Subscription.{Subscription}
use Rattle.pdc_session.specs.declared.serving.Serving.{Serving}
use Rattle.pdc_session.specs.Session.{AreFew, AreTold, HasAnswered, HasRoom, Hears, LacksOne, Tells, needed_of, replies_of, reply_of, told_after, told_after_all}

-- the first bytes of a piece, and then the first of its rest
two_parts : (piece : List ℕ) (a b : ℕ) → take (a + b) piece ≡ take a piece ++ take b (take (length piece - a) (drop a piece))
two_parts piece a b =
    let all : take (length piece - a) (drop a piece) ≡ drop a piece = take_all (length piece - a) (drop a piece) (omega (arith, length-drop a piece)) in
    take-add a b piece ∙ ap (λ (xs : List ℕ). take a piece ++ take b xs) (sym all)

pub within_piece : (piece : List ℕ) (at n : ℕ) → at ≤ length piece → n ≤ length (take (length piece - at) (drop at piece)) → at + n ≤ length piece
within_piece piece at n lt le = omega (arith, length-take (length piece - at) (drop at piece), length-drop at piece)

pub some_left : (piece : List ℕ) (at : ℕ) → at < length piece → 0 < length (take (length piece - at) (drop at piece))
some_left piece at lt = omega (arith, length-take (length piece - at) (drop at piece), length-drop at piece)

pub told-append : (id : ℕ) (frames more : List (List ℕ)) (commands others : List (Option Command)) → AreTold id frames commands → AreTold id more others → AreTold id (frames ++ more) (commands ++ others)
told-append id [] more [] others h k = k
told-append id [] more (c ∷ cs) others h k = absurd h
told-append id (f ∷ fs) more [] others h k = absurd h
told-append id (f ∷ fs) more (c ∷ cs) others h k = (h.0, told-append id fs more cs others h.1 k)

pub after-append : (told : Subscription) (commands others : List (Option Command)) → told_after_all told (commands ++ others) ≡ told_after_all (told_after_all told commands) others
after-append told [] others = refl
after-append told (c ∷ cs) others = after-append (told_after told c) cs others

-- as a feed tells it
abbrev pub Feeds : List ℕ → Held → Step → List ℕ → Held → Type 0
Feeds piece old step bytes new = (stream : List ℕ) (frames : List (List ℕ)) → HasTaken stream frames old → HasTaken (stream ++ piece) (frames ++ given_at step bytes) new

stream_more : (piece bytes : List ℕ) (a n : ℕ) (frames more : List (List ℕ)) (step : Step) (held mid new : Held)
    → ((stream : List ℕ) (before : List (List ℕ)) → HasTaken stream before held → HasTaken (stream ++ take a piece) (before ++ frames) mid)
    → Feeds (take n (take (length piece - a) (drop a piece))) mid step bytes new → given_at step bytes ≡ more
    → (stream : List ℕ) (before : List (List ℕ)) → HasTaken stream before held → HasTaken (stream ++ take (a + n) piece) (before ++ (frames ++ more)) new
stream_more piece bytes a n frames more step held mid new first feeds given stream before h =
    let next : HasTaken ((stream ++ take a piece) ++ take n (take (length piece - a) (drop a piece))) ((before ++ frames) ++ given_at step bytes) new = feeds (stream ++ take a piece) (before ++ frames) (first stream before h) in
    let bytes-are : (stream ++ take a piece) ++ take n (take (length piece - a) (drop a piece)) ≡ stream ++ take (a + n) piece =
    append_assoc stream (take a piece) (take n (take (length piece - a) (drop a piece))) ∙ ap (λ (xs : List ℕ). stream ++ xs) (sym (two_parts piece a n)) in
    let frames-are : (before ++ frames) ++ given_at step bytes ≡ before ++ (frames ++ more) =
    append_assoc before frames (given_at step bytes) ∙ ap (λ (fs : List (List ℕ)). before ++ (frames ++ fs)) given in
    subst (λ (fs : List (List ℕ)). HasTaken (stream ++ take (a + n) piece) fs new) frames-are (subst (λ (xs : List ℕ). HasTaken xs ((before ++ frames) ++ given_at step bytes) new) bytes-are next)

-- ---- few frames end in a piece

-- a feed takes so many bytes of what is left of the piece, and joins them to those that were pending
pub record Joins (piece : List ℕ) (a n : ℕ) (step : Step) (mid new : Held) : Type 0 where
  pub within : n ≤ length (take (length piece - a) (drop a piece))
  pub bytes : new.bytes ≡ pending_of mid.step mid.bytes ++ take n (take (length piece - a) (drop a piece))
  pub told : new.step ≡ step

taken_len : (piece : List ℕ) (a n : ℕ) → n ≤ length (take (length piece - a) (drop a piece)) → length (take (a + n) piece) ≡ length (take a piece) + n
taken_len piece a n within =
    let rest : List ℕ = take (length piece - a) (drop a piece) in
    let parts : length (take (a + n) piece) ≡ length (take a piece) + length (take n rest) = ap (λ (xs : List ℕ). length xs) (two_parts piece a n) ∙ length-append (take a piece) (take n rest) in
    omega (arith, length-take n rest)

joined_len : (piece : List ℕ) (a n : ℕ) (step : Step) (mid new : Held) → Joins piece a n step mid new → length new.bytes ≡ length (pending_of mid.step mid.bytes) + n
joined_len piece a n step mid new j =
    let rest : List ℕ = take (length piece - a) (drop a piece) in
    let parts : length new.bytes ≡ length (pending_of mid.step mid.bytes) + length (take n rest) = ap (λ (xs : List ℕ). length xs) j.bytes ∙ length-append (pending_of mid.step mid.bytes) (take n rest) in
    let within : n ≤ length rest = j.within in
    omega (arith, length-take n rest)

pending_len : (step : Step) (bytes : List ℕ) → length (pending_of step bytes) ≤ length bytes
pending_len More bytes = omega arith
pending_len Whole bytes = omega arith
pending_len (Bad fault) bytes = omega arith

still_few : (frames : List (List ℕ)) (before added pending later now : ℕ) → now ≡ before + added → later ≤ pending + added → AreFew frames before pending → AreFew frames now later
still_few [] before added pending later now is le few = tt
still_few (f ∷ fs) before added pending later now is le few = omega (arith, few)

one_more_few : (frames : List (List ℕ)) (frame : List ℕ) (before added pending now : ℕ) → now ≡ before + added → 0 < added → 16 ≤ pending + added → AreFew frames before pending → AreFew (frames ++ frame ∷ []) now 0
one_more_few [] frame before added pending now is some long few = omega arith
one_more_few (f ∷ fs) frame before added pending now is some long few =
    let len : length (fs ++ frame ∷ []) ≡ length fs + 1 = length-append fs (frame ∷ []) in
    omega (arith, few)

few_none : (piece : List ℕ) (a n : ℕ) (frames : List (List ℕ)) (step : Step) (mid new : Held) → Joins piece a n step mid new → AreFew frames (length (take a piece)) (length (pending_of mid.step mid.bytes))
    → AreFew (frames ++ []) (length (take (a + n) piece)) (length (pending_of new.step new.bytes))
few_none piece a n frames step mid new j few =
    subst (λ (fs : List (List ℕ)). AreFew fs (length (take (a + n) piece)) (length (pending_of new.step new.bytes))) (sym (append-nil frames))
    (still_few frames (length (take a piece)) n (length (pending_of mid.step mid.bytes)) _ _ (taken_len piece a n j.within)
    (omega (arith, pending_len new.step new.bytes, joined_len piece a n step mid new j)) few)

few_one : (piece : List ℕ) (a n : ℕ) (frames : List (List ℕ)) (step : Step) (f : Fields) (mid new : Held) → Joins piece a n step mid new → 0 < n → step ≡ Whole → IsFrame new.bytes f
    → AreFew frames (length (take a piece)) (length (pending_of mid.step mid.bytes)) → AreFew (frames ++ new.bytes ∷ []) (length (take (a + n) piece)) (length (pending_of new.step new.bytes))
few_one piece a n frames step f mid new j some whole frame few =
    let none : length (pending_of new.step new.bytes) ≡ 0 = ap (λ (s : Step). length (pending_of s new.bytes)) (j.told ∙ whole) in
    let len : length new.bytes ≡ length f.payload + 16 = ap (λ (xs : List ℕ). length xs) frame.spelled ∙ length-spelling_of f in
    subst (λ (k : ℕ). AreFew (frames ++ new.bytes ∷ []) (length (take (a + n) piece)) k) (sym none)
    (one_more_few frames new.bytes (length (take a piece)) n (length (pending_of mid.step mid.bytes)) _ (taken_len piece a n j.within) some (omega (arith, joined_len piece a n step mid new j)) few)

hears_more : (id : ℕ) (piece bytes : List ℕ) (a n : ℕ) (frames more : List (List ℕ)) (commands others : List (Option Command)) (step : Step) (held mid new : Held) (told after then_told : Subscription)
    → Hears id (take a piece) frames commands held told mid after → Feeds (take n (take (length piece - a) (drop a piece))) mid step bytes new
    → given_at step bytes ≡ more → AreTold id more others → then_told ≡ told_after_all after others
    → AreFew (frames ++ more) (length (take (a + n) piece)) (length (pending_of new.step new.bytes))
    → Hears id (take (a + n) piece) (frames ++ more) (commands ++ others) held told new then_told
hears_more id piece bytes a n frames more commands others step held mid new told after then_told h feeds given tells later few = record {
  stream = stream_more piece bytes a n frames more step held mid new h.stream feeds given;
  tells = told-append id frames more commands others h.tells tells;
  told_then = later ∙ ap (λ (t : Subscription). told_after_all t others) h.told_then ∙ sym (after-append told commands others);
  few = few;
}

answered_more : (id : ℕ) (serving : Serving) (piece bytes : List ℕ) (a n : ℕ) (more : List (List ℕ)) (others : List (Option Command)) (step : Step) (held mid new : Held) (told after then_told : Subscription) (out grown longer : List ℕ)
    → (h : HasAnswered id serving (take a piece) held told out mid after grown) → Feeds (take n (take (length piece - a) (drop a piece))) mid step bytes new
    → given_at step bytes ≡ more → AreTold id more others → then_told ≡ told_after_all after others → longer ≡ grown ++ replies_of id serving others
    → AreFew (h.frames ++ more) (length (take (a + n) piece)) (length (pending_of new.step new.bytes))
    → HasAnswered id serving (take (a + n) piece) held told out new then_told longer
answered_more id serving piece bytes a n more others step held mid new told after then_told out grown longer h feeds given tells later appended few = record {
  frames = h.frames ++ more;
  commands = h.commands ++ others;
  hears = hears_more id piece bytes a n h.frames more h.commands others step held mid new told after then_told h.hears feeds given tells later few;
  replies = appended ∙ ap (λ (xs : List ℕ). xs ++ replies_of id serving others) h.replies ∙ append_assoc out (replies_of id serving h.commands) (replies_of id serving others)
      ∙ ap (λ (xs : List ℕ). out ++ xs) (sym (flat_map-append (reply_of id serving) h.commands others));
}

-- nothing is given: more bytes are wanted, or there is a fault
pub answered_none : (id : ℕ) (serving : Serving) (piece bytes : List ℕ) (a n : ℕ) (step : Step) (held mid new : Held) (told after : Subscription) (out grown : List ℕ)
    → HasAnswered id serving (take a piece) held told out mid after grown → Feeds (take n (take (length piece - a) (drop a piece))) mid step bytes new → Joins piece a n step mid new
    → given_at step bytes ≡ [] → HasAnswered id serving (take (a + n) piece) held told out new after grown
answered_none id serving piece bytes a n step held mid new told after out grown h feeds joins given =
    answered_more id serving piece bytes a n [] [] step held mid new told after after out grown grown h feeds given tt refl (sym (append-nil grown)) (few_none piece a n h.frames step mid new joins h.hears.few)

pub none_in_more : (step : Step) (bytes : List ℕ) → step ≡ More → given_at step bytes ≡ []
none_in_more step bytes e = ap (λ (s : Step). given_at s bytes) e

pub none_in_bad : (step : Step) (fault : FrameFault) (bytes : List ℕ) → step ≡ Bad fault → given_at step bytes ≡ []
none_in_bad step fault bytes e = ap (λ (s : Step). given_at s bytes) e

pub good_in_more : (a b : Step) → a ≡ b → b ≡ More → IsBad a → ⊥
good_in_more a b e h = subst (λ (s : Step). IsBad s → ⊥) (sym (e ∙ h)) (λ bad. bad)

pub good_in_whole : (a b : Step) → a ≡ b → b ≡ Whole → IsBad a → ⊥
good_in_whole a b e h = subst (λ (s : Step). IsBad s → ⊥) (sym (e ∙ h)) (λ bad. bad)

pub bad_in_bad : (a b : Step) (fault : FrameFault) → a ≡ b → b ≡ Bad fault → IsBad a
bad_in_bad a b fault e h = subst IsBad (sym (e ∙ h)) tt

-- a frame is given, and its reply appended
pub answered_one : (id : ℕ) (serving : Serving) (piece : List ℕ) (a n : ℕ) (step : Step) (f : Fields) (command : Option Command) (held mid new : Held) (told after then_told : Subscription) (out grown longer : List ℕ)
    → HasAnswered id serving (take a piece) held told out mid after grown → Feeds (take n (take (length piece - a) (drop a piece))) mid step new.bytes new → Joins piece a n step mid new → 0 < n
    → step ≡ Whole → IsFrame new.bytes f → Tells id f command → then_told ≡ told_after after command → longer ≡ grown ++ reply_of id serving command
    → HasAnswered id serving (take (a + n) piece) held told out new then_told longer
answered_one id serving piece a n step f command held mid new told after then_told out grown longer h feeds joins some whole frame tells later appended =
    answered_more id serving piece new.bytes a n (new.bytes ∷ []) (command ∷ []) step held mid new told after then_told out grown longer h feeds
    (ap (λ (s : Step). given_at s new.bytes) whole) ((f, frame, tells), tt) later (appended ∙ ap (λ (xs : List ℕ). grown ++ xs) (sym (append-nil (reply_of id serving command))))
    (few_one piece a n h.frames step f mid new joins some whole frame h.hears.few)

-- a frame is given, and there is no room for its reply
pub lacks_one : (id : ℕ) (serving : Serving) (piece : List ℕ) (a n : ℕ) (step : Step) (f : Fields) (command : Option Command) (held mid new : Held) (told after then_told : Subscription) (out grown same : List ℕ) (room : ℕ)
    (Refused : ℕ → Type 0)
    → HasAnswered id serving (take a piece) held told out mid after grown → Feeds (take n (take (length piece - a) (drop a piece))) mid step new.bytes new → Joins piece a n step mid new → 0 < n
    → step ≡ Whole → IsFrame new.bytes f → Tells id f command → then_told ≡ told_after after command → same ≡ grown → (length same + length (reply_of id serving command) ≤ room → ⊥)
    → Refused (needed_of serving command) → LacksOne id serving (take (a + n) piece) held told out new then_told same room Refused
lacks_one id serving piece a n step f command held mid new told after then_told out grown same room Refused h feeds joins some whole frame tells later e full refused = record {
  frames = h.frames ++ new.bytes ∷ [];
  commands = h.commands;
  last = command;
  hears = hears_more id piece new.bytes a n h.frames (new.bytes ∷ []) h.commands (command ∷ []) step held mid new told after then_told h.hears feeds
      (ap (λ (s : Step). given_at s new.bytes) whole) ((f, frame, tells), tt) later (few_one piece a n h.frames step f mid new joins some whole frame h.hears.few);
  replies = e ∙ h.replies;
  full = full;
  refused = refused;
}

-- before the first byte
pub answered_start : (id : ℕ) (serving : Serving) (held : Held) (told : Subscription) (out : List ℕ) → HasAnswered id serving [] held told out held told out
answered_start id serving held told out = record {
  frames = [];
  commands = [];
  hears = record {
    stream = λ stream before h. subst (λ (fs : List (List ℕ)). HasTaken (stream ++ []) fs held) (sym (append-nil before)) (subst (λ (xs : List ℕ). HasTaken xs before held) (sym (append-nil stream)) h);
    tells = tt;
    told_then = refl;
    few = tt;
  };
  replies = sym (append-nil out);
}

pub answered_all : (id : ℕ) (serving : Serving) (piece : List ℕ) (at : ℕ) (held : Held) (told : Subscription) (out : List ℕ) (later : Held) (after : Subscription) (grown : List ℕ) → length piece ≤ at
    → HasAnswered id serving (take at piece) held told out later after grown → HasAnswered id serving piece held told out later after grown
answered_all id serving piece at held told out later after grown le h = subst (λ (xs : List ℕ). HasAnswered id serving xs held told out later after grown) (take_all at piece le) h

-- a refusal where there was room is none
pub full_room : (old new more : List ℕ) (before room : ℕ) → new ≡ old → room ≡ before → (length old + length more ≤ before → ⊥) → length new + length more ≤ room → ⊥
full_room old new more before room e same none fits =
    none (subst (λ (n : ℕ). length old + length more ≤ n) same (subst (λ (xs : List ℕ). length xs + length more ≤ room) e fits))

-- room that a reply had stays as it was
pub room_stays : (old new more : List ℕ) (first before room : ℕ) → new ≡ old ++ more → (length old ≤ first → before ≡ first) → (length old + length more ≤ before → room ≡ before) → length new ≤ first → room ≡ first
room_stays old new more first before room e stays in_place fits =
    let len : length new ≡ length old + length more = ap (λ (xs : List ℕ). length xs) e ∙ length-append old more in
    let same : before ≡ first = stays (omega arith) in
    in_place (omega arith) ∙ same

-- where there was room for the replies, none is lacking
pub lacks_none : (id : ℕ) (serving : Serving) (piece : List ℕ) (n : ℕ) (held later : Held) (told after : Subscription) (out grown : List ℕ) (before room : ℕ) (Refused : ℕ → Type 0) → n ≤ length piece
    → LacksOne id serving (take n piece) held told out later after grown room Refused → (length grown ≤ before → room ≡ before) → HasRoom id serving piece held told out before → ⊥
lacks_none id serving piece n held later told after out grown before room Refused le h in_place has =
    let all : length out + length (replies_of id serving (h.commands ++ h.last ∷ [])) ≤ before = has n h.frames (h.commands ++ h.last ∷ []) later after le h.hears in
    let replies : replies_of id serving (h.commands ++ h.last ∷ []) ≡ replies_of id serving h.commands ++ reply_of id serving h.last =
    flat_map-append (reply_of id serving) h.commands (h.last ∷ []) ∙ ap (λ (xs : List ℕ). replies_of id serving h.commands ++ xs) (append-nil (reply_of id serving h.last)) in
    let lens : length (replies_of id serving (h.commands ++ h.last ∷ [])) ≡ length (replies_of id serving h.commands) + length (reply_of id serving h.last) =
    ap (λ (xs : List ℕ). length xs) replies ∙ length-append (replies_of id serving h.commands) (reply_of id serving h.last) in
    let len : length grown ≡ length out + length (replies_of id serving h.commands) = ap (λ (xs : List ℕ). length xs) h.replies ∙ length-append out (replies_of id serving h.commands) in
    let same : room ≡ before = in_place (omega arith) in
    h.full (omega arith)
