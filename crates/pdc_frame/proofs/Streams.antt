-- A stream is cut into frames in one way.
use Rattle.std.proofs.Common.{◌≡◌, ◌≢◌, ◌⊎◌, inl, inr, ℕ, zero, suc, ◌+◌, ◌-◌, ◌<◌, ◌≤◌, List, [], ◌∷◌, ◌++◌, length, take, drop, Option, Some, None, refl, sym, ap, subst, ◌∙◌, arith, append_assoc, length-append, length-drop}
use Rattle.std.specs.Prelude.{flat_map, slice_index}
use Rattle.std.specs.List.{All}
use Rattle.std.proofs.Math.Seq.{take-append_seam, take-append-add}
use Rattle.std.proofs.lemmas.List.{append_cancel_left, append-nil, take-append-drop, take-append-le, get_or_append_left}
use Rattle.std.proofs.lemmas.List.Elements.{All-append}
use Rattle.std.proofs.lemmas.Grind.{flat_map-append}
use Rattle.std.proofs.lemmas.Bool.{cases_lt}
use Rattle.pdc_frame.specs.declared.fault.FrameFault.{FrameFault}
use Rattle.pdc_frame.specs.declared.fault.FrameFault.TheVariants.{Short, BadSync, SizeMismatch, BadCheck, BadId}
use Rattle.pdc_frame.specs.declared.step.Step.{Step}
use Rattle.pdc_frame.specs.declared.step.Step.TheVariants.{More, Whole, Bad}
use Rattle.pdc_words.specs.Bytes.{word_at}
use Rattle.pdc_frame.specs.Frame.{Fields, IsFrame, IsSync, IsSized}
use Rattle.pdc_frame.specs.Stream.{IsGoing, IsWhole, IsCause, IsAt, IsBad, Held, HasTaken, GoesOn, IsRest, Splits, pending_of, fault_of, given_at}
use Rattle.pdc_words.proofs.Cells.{word_at-append, two_takes}
use Rattle.pdc_frame.proofs.Wholes.{whole-sized, whole-checked, id-spelled}

-- ---- a front of a frame, of bytes that go on, of bytes that show a fault

cell-front : (front rest : List ℕ) (i : ℕ) → i < length front → slice_index (front ++ rest) i ≡ slice_index front i
cell-front front rest i lt = get_or_append_left front rest 0 i lt

begun-front : (front rest : List ℕ) → (1 ≤ length (front ++ rest) → slice_index (front ++ rest) 0 ≡ 170)
    → (2 ≤ length (front ++ rest) → IsSync (slice_index (front ++ rest) 0) (slice_index (front ++ rest) 1))
    → (4 ≤ length (front ++ rest) → 16 ≤ word_at (front ++ rest) 2) → (4 ≤ length front → length front < word_at (front ++ rest) 2) → IsGoing front
begun-front front rest first sync size more =
    let len : length (front ++ rest) ≡ length front + length rest = length-append front rest in
    record {
      first = λ le. sym (cell-front front rest 0 (omega arith)) ∙ first (omega arith);
      sync = λ le. subst (λ (n : ℕ). IsSync (slice_index front 0) n) (cell-front front rest 1 (omega arith))
          (subst (λ (n : ℕ). IsSync n (slice_index (front ++ rest) 1)) (cell-front front rest 0 (omega arith)) (sync (omega arith)));
      size = λ le. omega (arith, word_at-append front rest 2 (omega arith), size (omega arith));
      more = λ le. omega (arith, word_at-append front rest 2 (omega arith), more le);
    }

going-front : (front rest : List ℕ) → IsGoing (front ++ rest) → IsGoing front
going-front front rest h =
    let len : length (front ++ rest) ≡ length front + length rest = length-append front rest in
    begun-front front rest h.first h.sync h.size (λ le. omega (arith, h.more (omega arith)))

sized-front : (front rest : List ℕ) → IsSized (front ++ rest) → 0 < length rest → IsGoing front
sized-front front rest h some =
    let len : length (front ++ rest) ≡ length front + length rest = length-append front rest in
    begun-front front rest (λ le. h.0.1.first_byte) (λ le. h.0.1) (λ le. omega (arith, h.0.0, h.1)) (λ le. omega (arith, h.1))

pub at-front : (front rest : List ℕ) (step : Step) → IsAt (front ++ rest) step → 0 < length rest → IsGoing front
at-front front rest More h some = going-front front rest h
at-front front rest Whole h some = sized-front front rest (whole-sized (front ++ rest) h.0 h.1) some
at-front front rest (Bad fault) h some =
    let m : ℕ = length rest - 1 in
    let len : length (front ++ rest) - 1 ≡ length front + m = omega (arith, length-append front rest) in
    let cut : take (length (front ++ rest) - 1) (front ++ rest) ≡ front ++ take m rest = ap (λ (n : ℕ). take n (front ++ rest)) len ∙ take-append-add front rest m in
    going-front front (take m rest) (subst IsGoing cut h.before)

-- ---- one answer for the same bytes

going-no_cause : (bytes : List ℕ) (fault : FrameFault) → IsGoing bytes → IsCause bytes fault → ⊥
going-no_cause bytes Short h cause = absurd (omega (arith, h.size (omega arith)))
going-no_cause bytes BadSync h (inl cause) = cause.1 (h.first (omega arith))
going-no_cause bytes BadSync h (inr cause) = cause.1 (h.sync (omega arith))
going-no_cause bytes SizeMismatch h cause = cause
going-no_cause bytes BadCheck h cause = absurd (omega (arith, cause.0.0.0, cause.0.1, h.more (omega (arith, cause.0.0.0))))
going-no_cause bytes BadId h cause = absurd (omega (arith, cause.0.0.0.0, cause.0.0.1, h.more (omega (arith, cause.0.0.0.0))))

going-not_sized : (bytes : List ℕ) → IsGoing bytes → IsSized bytes → ⊥
going-not_sized bytes h sized = absurd (omega (arith, sized.0.0, sized.1, h.more (omega (arith, sized.0.0))))

pub whole-no_cause : (bytes : List ℕ) (f : Fields) (fault : FrameFault) → IsFrame bytes f → IsCause bytes fault → ⊥
whole-no_cause bytes f Short h cause = absurd (omega (arith, cause.0, (whole-sized bytes f h).0.0))
whole-no_cause bytes f BadSync h (inl cause) = absurd (omega (arith, cause.0, (whole-sized bytes f h).0.0))
whole-no_cause bytes f BadSync h (inr cause) = absurd (omega (arith, cause.0, (whole-sized bytes f h).0.0))
whole-no_cause bytes f SizeMismatch h cause = cause
whole-no_cause bytes f BadCheck h cause = cause.1 (whole-checked bytes f h).1
whole-no_cause bytes f BadId h cause = elim cause.1 [ inl e ↦ absurd (omega (arith, h.fits.id_low, id-spelled bytes f h)) | inr e ↦ absurd (omega (arith, h.fits.id_high, id-spelled bytes f h)) ]

one_cause : (bytes : List ℕ) (a b : FrameFault) → IsCause bytes a → IsCause bytes b → a ≡ b
one_cause bytes Short Short h k = refl
one_cause bytes Short BadSync h (inl k) = absurd (omega arith)
one_cause bytes Short BadSync h (inr k) = absurd (omega arith)
one_cause bytes Short BadCheck h k = absurd (omega (arith, k.0.0.0))
one_cause bytes Short BadId h k = absurd (omega (arith, k.0.0.0.0))
one_cause bytes BadSync Short (inl h) k = absurd (omega arith)
one_cause bytes BadSync Short (inr h) k = absurd (omega arith)
one_cause bytes BadSync BadSync h k = refl
one_cause bytes BadSync BadCheck (inl h) k = absurd (omega (arith, k.0.0.0))
one_cause bytes BadSync BadCheck (inr h) k = absurd (omega (arith, k.0.0.0))
one_cause bytes BadSync BadId (inl h) k = absurd (omega (arith, k.0.0.0.0))
one_cause bytes BadSync BadId (inr h) k = absurd (omega (arith, k.0.0.0.0))
one_cause bytes BadCheck Short h k = absurd (omega (arith, h.0.0.0))
one_cause bytes BadCheck BadSync h (inl k) = absurd (omega (arith, h.0.0.0))
one_cause bytes BadCheck BadSync h (inr k) = absurd (omega (arith, h.0.0.0))
one_cause bytes BadCheck BadCheck h k = refl
one_cause bytes BadCheck BadId h k = absurd (h.1 k.0.1)
one_cause bytes BadId Short h k = absurd (omega (arith, h.0.0.0.0))
one_cause bytes BadId BadSync h (inl k) = absurd (omega (arith, h.0.0.0.0))
one_cause bytes BadId BadSync h (inr k) = absurd (omega (arith, h.0.0.0.0))
one_cause bytes BadId BadCheck h k = absurd (k.1 h.0.1)
one_cause bytes BadId BadId h k = refl
one_cause bytes SizeMismatch b h k = absurd h
one_cause bytes a SizeMismatch h k = absurd k

pub one_step : (bytes : List ℕ) (s t : Step) → IsAt bytes s → IsAt bytes t → s ≡ t
one_step bytes More More h k = refl
one_step bytes More Whole h k = absurd (going-not_sized bytes h (whole-sized bytes k.0 k.1))
one_step bytes More (Bad b) h k = absurd (going-no_cause bytes b h k.cause)
one_step bytes Whole More h k = absurd (going-not_sized bytes k (whole-sized bytes h.0 h.1))
one_step bytes Whole Whole h k = refl
one_step bytes Whole (Bad b) h k = absurd (whole-no_cause bytes h.0 b h.1 k.cause)
one_step bytes (Bad a) More h k = absurd (going-no_cause bytes a k h.cause)
one_step bytes (Bad a) Whole h k = absurd (whole-no_cause bytes k.0 a k.1 h.cause)
one_step bytes (Bad a) (Bad b) h k = ap Bad (one_cause bytes a b h.cause k.cause)

-- ---- one end in a stream

longer : (a x b y : List ℕ) → length a ≤ length b → a ++ x ≡ b ++ y → b ≡ a ++ drop (length a) b
longer a x b y le e =
    let front : a ≡ take (length a) b = sym (take-append_seam a x) ∙ ap (take (length a)) e ∙ take-append-le (length a) b y le in
    sym (take-append-drop (length a) b) ∙ ap (λ (xs : List ℕ). xs ++ drop (length a) b) (sym front)

-- bytes that end so do not begin longer ones that end
not_longer : (a x b y : List ℕ) (s t : Step) → s ≢ More → IsAt a s → IsAt b t → a ++ x ≡ b ++ y → length b ≤ length a
not_longer a x b y s t ends ha hb e =
    elim (cases_lt (length a) (length b)) [
      | inl lt ↦ absurd (ends (one_step a s More ha (at-front a (drop (length a) b) t (subst (λ (xs : List ℕ). IsAt xs t) (longer a x b y (omega arith) e) hb) (omega (arith, length-drop (length a) b)))))
      | inr le ↦ le
    ]

same_length : (a x b y : List ℕ) → length a ≡ length b → a ++ x ≡ b ++ y → a ≡ b
same_length a x b y len e = sym (take-append_seam a x) ∙ ap (take (length a)) e ∙ ap (λ (n : ℕ). take n (b ++ y)) len ∙ take-append_seam b y

pub one_end : (a x b y : List ℕ) (s t : Step) → s ≢ More → t ≢ More → IsAt a s → IsAt b t → a ++ x ≡ b ++ y → (a ≡ b) × (s ≡ t) × (x ≡ y)
one_end a x b y s t s_ends t_ends ha hb e =
    let len : length a ≡ length b = omega (arith, not_longer a x b y s t s_ends ha hb e, not_longer b y a x t s t_ends hb ha (sym e)) in
    let same : a ≡ b = same_length a x b y len e in
    (same, one_step b s t (subst (λ (xs : List ℕ). IsAt xs s) same ha) hb, append_cancel_left b x y (ap (λ (xs : List ℕ). xs ++ x) (sym same) ∙ e))

pub no_end : (rest a x : List ℕ) (s : Step) → s ≢ More → IsGoing rest → IsAt a s → rest ≡ a ++ x → ⊥
no_end rest a x s ends h ha e = ends (one_step a s More ha (going-front a x (subst IsGoing e h)))

-- ---- one way to cut a stream

abbrev concat : List (List ℕ) → List ℕ
concat frames = flat_map (λ frame. frame) frames

pub whole-ends : Whole ≢ More
whole-ends e = cc

pub bad-ends : (fault : FrameFault) → Bad fault ≢ More
bad-ends fault e = cc

one_rest : (rest other : List ℕ) (fault late : Option FrameFault) → IsRest rest fault → IsRest other late → rest ≡ other → fault ≡ late
one_rest rest other None None h k e = refl
one_rest rest other None (Some late) h k e = absurd (no_end rest k.0 k.1 (Bad late) (bad-ends late) h k.3 (e ∙ k.2))
one_rest rest other (Some fault) None h k e = absurd (no_end other h.0 h.1 (Bad fault) (bad-ends fault) k h.3 (sym e ∙ h.2))
one_rest rest other (Some fault) (Some late) h k e =
    let same : Bad fault ≡ Bad late = (one_end h.0 h.1 k.0 k.1 (Bad fault) (Bad late) (bad-ends fault) (bad-ends late) h.3 k.3 (sym h.2 ∙ e ∙ k.2)).1 in
    cc

-- a rest does not begin with a frame
rest-no_frame : (rest frame more : List ℕ) (fault : Option FrameFault) → IsRest rest fault → IsWhole frame → rest ≡ frame ++ more → ⊥
rest-no_frame rest frame more None h k e = no_end rest frame more Whole whole-ends h k e
rest-no_frame rest frame more (Some fault) h k e =
    let same : Bad fault ≡ Whole = (one_end h.0 h.1 frame more (Bad fault) Whole (bad-ends fault) whole-ends h.3 k (sym h.2 ∙ e)).1 in
    cc

one_cut : (frames others : List (List ℕ)) (rest other : List ℕ) (fault late : Option FrameFault) → All IsWhole frames → All IsWhole others → IsRest rest fault → IsRest other late
    → concat frames ++ rest ≡ concat others ++ other → (frames ≡ others) × (rest ≡ other) × (fault ≡ late)
one_cut [] [] rest other fault late all each h k e = (refl, e, one_rest rest other fault late h k e)
one_cut [] (y ∷ others) rest other fault late all each h k e = absurd (rest-no_frame rest y (concat others ++ other) fault h (each 0 [] (omega arith)) (e ∙ append_assoc y (concat others) other))
one_cut (x ∷ frames) [] rest other fault late all each h k e = absurd (rest-no_frame other x (concat frames ++ rest) late k (all 0 [] (omega arith)) (sym e ∙ append_assoc x (concat frames) rest))
one_cut (x ∷ frames) (y ∷ others) rest other fault late all each h k e =
    let first : (x ≡ y) × (Whole ≡ Whole) × (concat frames ++ rest ≡ concat others ++ other) =
    one_end x (concat frames ++ rest) y (concat others ++ other) Whole Whole whole-ends whole-ends (all 0 [] (omega arith)) (each 0 [] (omega arith)) (sym (append_assoc x (concat frames) rest) ∙ e ∙ append_assoc y (concat others) other) in
    let later : (frames ≡ others) × (rest ≡ other) × (fault ≡ late) =
    one_cut frames others rest other fault late (λ k d lt. all (suc k) d (omega arith)) (λ k d lt. each (suc k) d (omega arith)) h k first.2 in
    (ap (λ (f : List ℕ). f ∷ frames) first.0 ∙ ap (λ (fs : List (List ℕ)). y ∷ fs) later.0, later.1, later.2)

pub one_split : (stream : List ℕ) (frames others : List (List ℕ)) (rest other : List ℕ) (fault late : Option FrameFault) → Splits stream frames rest fault → Splits stream others other late
    → (frames ≡ others) × (rest ≡ other) × (fault ≡ late)
one_split stream frames others rest other fault late h k = one_cut frames others rest other fault late h.each k.each h.end k.end (sym h.whole ∙ k.whole)

-- ---- what a framer took

pub joined : (stream piece bytes held : List ℕ) (frames : List (List ℕ)) → stream ≡ concat frames ++ held → bytes ≡ held ++ piece → stream ++ piece ≡ concat frames ++ bytes
joined stream piece bytes held frames whole e = ap (λ (xs : List ℕ). xs ++ piece) whole ∙ append_assoc (concat frames) held piece ∙ ap (λ (xs : List ℕ). concat frames ++ xs) (sym e)

one_more : (stream bytes : List ℕ) (frames : List (List ℕ)) → stream ≡ concat frames ++ bytes → stream ≡ concat (frames ++ bytes ∷ []) ++ []
one_more stream bytes frames e =
    e ∙ ap (λ (xs : List ℕ). concat frames ++ xs) (sym (append-nil bytes)) ∙ sym (flat_map-append (λ (frame : List ℕ). frame) frames (bytes ∷ [])) ∙ sym (append-nil (concat (frames ++ bytes ∷ [])))

pub All-one : (bytes : List ℕ) → IsWhole bytes → All IsWhole (bytes ∷ [])
All-one bytes h zero d lt = h
All-one bytes h (suc k) d lt = absurd (omega arith)

-- a framer goes on
going_on : (stream piece bytes held : List ℕ) (frames : List (List ℕ)) (step : Step) (room : ℕ) → stream ≡ concat frames ++ held → All IsWhole frames → bytes ≡ held ++ piece → IsAt bytes step
    → HasTaken (stream ++ piece) (frames ++ given_at step bytes) (record { bytes = bytes; step = step; room = room })
going_on stream piece bytes held frames More room whole each e at =
    let same : frames ≡ frames ++ [] = sym (append-nil frames) in
    record { whole = joined stream piece bytes held frames whole e ∙ ap (λ (fs : List (List ℕ)). concat fs ++ bytes) same; each = subst (All IsWhole) same each; at = at }
going_on stream piece bytes held frames Whole room whole each e at =
    record {
      whole = one_more (stream ++ piece) bytes frames (joined stream piece bytes held frames whole e);
      each = All-append IsWhole frames (bytes ∷ []) each (All-one bytes at);
      at = at;
    }
going_on stream piece bytes held frames (Bad fault) room whole each e at =
    let same : frames ≡ frames ++ [] = sym (append-nil frames) in
    record { whole = joined stream piece bytes held frames whole e ∙ ap (λ (fs : List (List ℕ)). concat fs ++ bytes) same; each = subst (All IsWhole) same each; at = at }

pub taken_more : (stream piece : List ℕ) (frames : List (List ℕ)) (old new : Held) → HasTaken stream frames old → new.bytes ≡ pending_of old.step old.bytes ++ piece → IsAt new.bytes new.step
    → HasTaken (stream ++ piece) (frames ++ given_at new.step new.bytes) new
taken_more stream piece frames old new h e at = going_on stream piece new.bytes (pending_of old.step old.bytes) frames new.step new.room h.whole h.each e at

pub going-nil : IsGoing []
going-nil = record { first = λ le. absurd (omega arith); sync = λ le. absurd (omega arith); size = λ le. absurd (omega arith); more = λ le. absurd (omega arith) }

pub taken_none : (room : ℕ) → HasTaken [] [] (record { bytes = []; step = More; room = room })
taken_none room = record { whole = refl; each = λ k d lt. absurd (omega arith); at = going-nil }

-- the frames that a framer gave are those of the stream, once no byte is left that it would take
split_by : (stream unread bytes : List ℕ) (frames : List (List ℕ)) (step : Step) → stream ≡ concat frames ++ pending_of step bytes → All IsWhole frames → IsAt bytes step → (fault_of step ≡ None → unread ≡ [])
    → Splits (stream ++ unread) frames (pending_of step bytes ++ unread) (fault_of step)
split_by stream unread bytes frames More whole each at used_up =
    record { whole = joined stream unread _ bytes frames whole refl; each = each; end = subst IsGoing (sym (append-nil bytes) ∙ ap (λ (xs : List ℕ). bytes ++ xs) (sym (used_up refl))) at }
split_by stream unread bytes frames Whole whole each at used_up =
    record { whole = joined stream unread _ [] frames whole refl; each = each; end = subst IsGoing (sym (used_up refl)) going-nil }
split_by stream unread bytes frames (Bad fault) whole each at used_up =
    record { whole = joined stream unread _ bytes frames whole refl; each = each; end = (bytes, unread, refl, at) }

pub taken_split : (stream unread : List ℕ) (frames : List (List ℕ)) (held : Held) → HasTaken stream frames held → (fault_of held.step ≡ None → unread ≡ [])
    → Splits (stream ++ unread) frames (pending_of held.step held.bytes ++ unread) (fault_of held.step)
taken_split stream unread frames held h used_up = split_by stream unread held.bytes frames held.step h.whole h.each h.at used_up

-- ---- the frames collected from a piece

-- as a feed tells it
abbrev pub Feeds : List ℕ → Held → Step → List ℕ → Held → Type 0
Feeds piece old step bytes new = (stream : List ℕ) (frames : List (List ℕ)) → HasTaken stream frames old → HasTaken (stream ++ piece) (frames ++ given_at step bytes) new

pub goes_further : (piece bytes : List ℕ) (a n : ℕ) (first frames others : List (List ℕ)) (step : Step) (start mid new : Held) → GoesOn (take a piece) first start frames mid
    → Feeds (take n (take (length piece - a) (drop a piece))) mid step bytes new → others ≡ frames ++ given_at step bytes → GoesOn (take (a + n) piece) first start others new
goes_further piece bytes a n first frames others step start mid new before feeds more stream h =
    let next : HasTaken ((stream ++ take a piece) ++ take n (take (length piece - a) (drop a piece))) (frames ++ given_at step bytes) new = feeds (stream ++ take a piece) frames (before stream h) in
    let whole : (stream ++ take a piece) ++ take n (take (length piece - a) (drop a piece)) ≡ stream ++ take (a + n) piece = two_takes stream (stream ++ take a piece) _ piece a n refl refl in
    subst (λ (fs : List (List ℕ)). HasTaken (stream ++ take (a + n) piece) fs new) (sym more) (subst (λ (xs : List ℕ). HasTaken xs (frames ++ given_at step bytes) new) whole next)

pub none_given : (frames : List (List ℕ)) (step : Step) (bytes : List ℕ) → (step ≡ Whole → ⊥) → frames ≡ frames ++ given_at step bytes
none_given frames More bytes h = sym (append-nil frames)
none_given frames Whole bytes h = absurd (h refl)
none_given frames (Bad fault) bytes h = sym (append-nil frames)

pub none_bad : (a b : Step) → a ≡ b → (b ≡ More) ⊎ (b ≡ Whole) → IsBad a → ⊥
none_bad More b e h bad = bad
none_bad Whole b e h bad = bad
none_bad (Bad fault) b e (inl h) bad = absurd (bad-ends fault (e ∙ h))
none_bad (Bad fault) b e (inr h) bad = let same : Bad fault ≡ Whole = e ∙ h in cc

pub no_others : (stream : List ℕ) (found : List (List ℕ)) (rest : List ℕ) (why : Option FrameFault) → Splits stream found rest why
    → (frames : List (List ℕ)) (other : List ℕ) (fault : Option FrameFault) → Splits stream frames other fault → (found ≡ frames) × (why ≡ fault)
no_others stream found rest why h frames other fault k = let same : (found ≡ frames) × (rest ≡ other) × (why ≡ fault) = one_split stream found frames rest other why fault h k in (same.0, same.2)
