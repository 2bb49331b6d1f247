-- What is kept, as instants that rise, and the frames above an instant.
use Rattle.std.proofs.Common.{◌≡◌, ℕ, zero, suc, ◌+◌, ◌<◌, ◌≤◌, List, [], ◌∷◌, ◌++◌, length, drop, get_or, Option, None, refl, subst, sym, ap, ◌∙◌, arith, length-append}
use Rattle.std.specs.Prelude.{map, Some, nat_lt, cond, Bool, true, false, max}
use Rattle.std.proofs.lemmas.Bool.{lt-ltb, leb-false}
use Rattle.std.proofs.lemmas.List.{map-append}
use Rattle.std.proofs.lemmas.List.Elements.{filter-append}
use Rattle.std.proofs.Math.Seq.{drop-cons}
use Rattle.pdc_session.specs.declared.recent.SentFrame.{SentFrame}
use Rattle.pdc_session.specs.Recent.{AreAbove, AreCovered, AreRising, Kept, above, bytes_of, frame_of, greatest_of, is_old, last_256}

-- the frame at an index, and those behind it
pub at_frame : {A : Type 0} (frames : List (SentFrame A)) (k : ℕ) (frame : SentFrame A) → k < length frames → frame ≡ get_or frames k frame
    → map frame_of (drop k frames) ≡ frame_of frame ∷ map frame_of (drop (suc k) frames)
at_frame {A} frames k frame lt is = ap (λ (fs : List (SentFrame A)). map frame_of fs) (drop-cons frames k frame lt ∙ ap (λ (f : SentFrame A). f ∷ drop (suc k) frames) (sym is))

above_first : (instant : ℕ) (frame : Kept) (frames : List Kept) → instant < frame.instant → above instant (frame ∷ frames) ≡ frame ∷ above instant frames
above_first instant frame frames lt = ap (λ (b : Bool). cond b (frame ∷ above instant frames) (above instant frames)) (lt-ltb instant frame.instant lt)

-- there is room for a frame where there is room for all
pub room_for_one : {A : Type 0} (instant k : ℕ) (frames : List (SentFrame A)) (frame : SentFrame A) (held start : List ℕ) (room before : ℕ) → k < length frames → frame ≡ get_or frames k frame → instant < frame.instant
    → held ++ bytes_of (above instant (map frame_of (drop k frames))) ≡ start ++ bytes_of (above instant (map frame_of frames))
    → length start + length (bytes_of (above instant (map frame_of frames))) ≤ before → room ≡ before → length held + length frame.bytes.items ≤ room
room_for_one {A} instant k frames frame held start room before lt is later e fits same =
    let rest : List Kept = map frame_of (drop (suc k) frames) in
    let first : above instant (map frame_of (drop k frames)) ≡ frame_of frame ∷ above instant rest = ap (above instant) (at_frame frames k frame lt is) ∙ above_first instant (frame_of frame) rest later in
    let joined : held ++ (frame.bytes.items ++ bytes_of (above instant rest)) ≡ start ++ bytes_of (above instant (map frame_of frames)) = ap (λ (fs : List Kept). held ++ bytes_of fs) (sym first) ∙ e in
    let lens : length held + (length frame.bytes.items + length (bytes_of (above instant rest))) ≡ length start + length (bytes_of (above instant (map frame_of frames))) =
    sym (length-append held (frame.bytes.items ++ bytes_of (above instant rest)) ∙ ap (λ (n : ℕ). length held + n) (length-append frame.bytes.items (bytes_of (above instant rest)))) ∙ ap (λ (xs : List ℕ). length xs) joined ∙ length-append start (bytes_of (above instant (map frame_of frames))) in
    omega arith

-- the frames above an instant, in two parts
greatest-append : (n : ℕ) (first second : List Kept) → greatest_of n (first ++ second) ≡ greatest_of (greatest_of n first) second
greatest-append n [] second = refl
greatest-append n (f ∷ fs) second = greatest-append (max n f.instant) fs second

pub two_parts_above : {A : Type 0} (instant : ℕ) (first second frames : List (SentFrame A)) → first ++ second ≡ frames
    → above instant (map frame_of frames) ≡ above instant (map frame_of first) ++ above instant (map frame_of second)
two_parts_above {A} instant first second frames e = ap (λ (fs : List (SentFrame A)). above instant (map frame_of fs)) (sym e) ∙ ap (above instant) (map-append frame_of first second) ∙ filter-append (λ (f : Kept). nat_lt instant f.instant) (map frame_of first) (map frame_of second)

pub greatest_above : {A : Type 0} (instant : ℕ) (first second frames : List (SentFrame A)) → first ++ second ≡ frames
    → greatest_of (greatest_of instant (above instant (map frame_of first))) (above instant (map frame_of second)) ≡ greatest_of instant (above instant (map frame_of frames))
greatest_above instant first second frames e = sym (ap (greatest_of instant) (two_parts_above instant first second frames e) ∙ greatest-append instant (above instant (map frame_of first)) (above instant (map frame_of second)))

-- parts of what rises rise
still_above : (n instant : ℕ) (frames : List Kept) → AreAbove n frames → AreAbove n (above instant frames)
still_above n instant [] h = tt
still_above n instant (f ∷ fs) h =
    elim (nat_lt instant f.instant) as (λ (b : Bool). AreAbove n (cond b (f ∷ above instant fs) (above instant fs))) [ true ↦ (h.0, still_above n instant fs h.1) | false ↦ still_above n instant fs h.1 ]

pub above_rises : (instant : ℕ) (frames : List Kept) → AreRising frames → AreRising (above instant frames)
above_rises instant [] h = tt
above_rises instant (f ∷ fs) h =
    elim (nat_lt instant f.instant) as (λ (b : Bool). AreRising (cond b (f ∷ above instant fs) (above instant fs))) [ true ↦ (still_above f.instant instant fs h.0, above_rises instant fs h.1) | false ↦ above_rises instant fs h.1 ]

drop_rises : (n : ℕ) (frames : List Kept) → AreRising frames → AreRising (drop n frames)
drop_rises zero frames h = h
drop_rises (suc n) [] h = tt
drop_rises (suc n) (f ∷ fs) h = drop_rises n fs h.1

drop_covered : (n : ℕ) (greatest : Option ℕ) (frames : List Kept) → AreCovered greatest frames → AreCovered greatest (drop n frames)
drop_covered zero greatest frames h = h
drop_covered (suc n) greatest [] h = tt
drop_covered (suc n) None (f ∷ fs) h = absurd h
drop_covered (suc n) (Some g) (f ∷ fs) h = drop_covered n (Some g) fs h.1

-- a frame above all that are kept
above_last : (n : ℕ) (frames : List Kept) (frame : Kept) → AreAbove n frames → n < frame.instant → AreAbove n (frames ++ frame ∷ [])
above_last n [] frame h lt = (lt, tt)
above_last n (f ∷ fs) frame h lt = (h.0, above_last n fs frame h.1 lt)

abbrev AreUnder : ℕ → List Kept → Type 0
AreUnder n [] = Unit {0}
AreUnder n (f ∷ fs) = (f.instant < n) × AreUnder n fs

under_new : (greatest : Option ℕ) (instant : ℕ) (frames : List Kept) → AreCovered greatest frames → is_old greatest instant ≡ false → AreUnder instant frames
under_new greatest instant [] h new = tt
under_new None instant (f ∷ fs) h new = absurd h
under_new (Some g) instant (f ∷ fs) h new = let lt : g < instant = leb-false instant g new in (omega (arith, h.0), under_new (Some g) instant fs h.1 new)

one_more_rises : (frames : List Kept) (frame : Kept) → AreRising frames → AreUnder frame.instant frames → AreRising (frames ++ frame ∷ [])
one_more_rises [] frame h under = (tt, tt)
one_more_rises (f ∷ fs) frame h under = (above_last f.instant fs frame h.0 under.0, one_more_rises fs frame h.1 under.1)

one_more_covered : (frames : List Kept) (frame : Kept) → AreUnder frame.instant frames → AreCovered (Some frame.instant) (frames ++ frame ∷ [])
one_more_covered [] frame under = (omega arith, tt)
one_more_covered (f ∷ fs) frame under = (omega (arith, under.0), one_more_covered fs frame under.1)

-- what a push keeps
pub pushed_rises : (greatest : Option ℕ) (frames : List Kept) (frame : Kept) (kept : List Kept) → AreRising frames → AreCovered greatest frames → is_old greatest frame.instant ≡ false
    → kept ≡ last_256 (frames ++ frame ∷ []) → AreRising kept
pushed_rises greatest frames frame kept rises covered new e = subst AreRising (sym e) (drop_rises _ (frames ++ frame ∷ []) (one_more_rises frames frame rises (under_new greatest frame.instant frames covered new)))

pub pushed_covered : (greatest : Option ℕ) (frames : List Kept) (frame : Kept) (kept : List Kept) → AreCovered greatest frames → is_old greatest frame.instant ≡ false
    → kept ≡ last_256 (frames ++ frame ∷ []) → AreCovered (Some frame.instant) kept
pushed_covered greatest frames frame kept covered new e =
    subst (AreCovered (Some frame.instant)) (sym e) (drop_covered _ (Some frame.instant) (frames ++ frame ∷ []) (one_more_covered frames frame (under_new greatest frame.instant frames covered new)))
