-- Turn by turn, what a consumer has of layouts is known.
use Rattle.std.proofs.Common.{◌≡◌, ◌⊎◌, refl, sym, subst, ap, ap₂, ◌∙◌, inl, inr, ℕ, List, [], ◌∷◌, ◌++◌, Option, None, Bool, true, false}
use Rattle.std.specs.Prelude.{Some, map, cond, nat_eq, ◌&&◌}
use Rattle.std.proofs.lemmas.Bool.{eqb-true, false≢true}
use Rattle.std.proofs.lemmas.Option.{none-some, same_Some}
use Rattle.pdc_session.specs.Recent.{Kept}
use Rattle.pdc_server.specs.Fits.{AreReplied, Fit, Piece, TurnWrites, TurnsWrite, data_piece, given_pieces, joined_pieces, last_of}
use Rattle.pdc_server.specs.Given.{IsGiven}
use Rattle.pdc_server.specs.Places.{Takes, first_place, replied, seen_after}
use Rattle.pdc_server.specs.Stamps.{is_stamp}
use Rattle.pdc_server.specs.Stream.{Stream}
use Rattle.pdc_server.specs.Turn.{Standing, place_after}
use Rattle.pdc_server.specs.declared.place.Place.{Place}
use Rattle.pdc_server.specs.declared.place.Seen.{Seen}
use Rattle.pdc_server.specs.declared.place.Seen.TheVariants.{Nothing, Layout, Unsure}
use Rattle.pdc_server.specs.declared.stamp.Stamp.{Stamp}

-- what a place says of the last layout frame
abbrev pub Knows : Seen → Option Stamp → Type 0
Knows Nothing last = last ≡ None
Knows (Layout stamp) last = (last ≡ None) ⊎ (last ≡ Some stamp)
Knows Unsure last = Unit {0}

both_are : (one other : Bool) → (one && other) ≡ true → (one ≡ true) × (other ≡ true)
both_are true other h = (refl, h)
both_are false other h = absurd (false≢true h)

same_stamp : (one other : Stamp) → is_stamp one other ≡ true → one ≡ other
same_stamp one other is =
    let both = both_are (nat_eq one.start other.start) (nat_eq one.change other.change) is in
    ap₂ (λ (s c : ℕ). record { start = s; change = c }) (eqb-true one.start other.start both.0) (eqb-true one.change other.change both.1)

fit-append : (last : Option Stamp) (first second : List Piece) → Fit last first → Fit (last_of last first) second → Fit last (first ++ second)
fit-append last [] second f s = s
fit-append last (piece ∷ pieces) second f s = (f.0, fit-append _ pieces second f.1 s)

last-append : (last : Option Stamp) (first second : List Piece) → last_of last (first ++ second) ≡ last_of (last_of last first) second
last-append last [] second = refl
last-append last (piece ∷ pieces) second = last-append _ pieces second

-- data frames of a layout that may come next
data_fits : (last : Option Stamp) (stamp : Stamp) (frames : List Kept) → (last ≡ None) ⊎ (last ≡ Some stamp)
    → Fit last (map (λ (frame : Kept). data_piece stamp) frames) × (last_of last (map (λ (frame : Kept). data_piece stamp) frames) ≡ last)
data_fits last stamp [] h = (tt, refl)
data_fits None stamp (f ∷ fs) h = let rest = data_fits None stamp fs h in ((tt, rest.0), rest.1)
data_fits (Some s) stamp (f ∷ fs) (inl h) = absurd (none-some _ (sym h))
data_fits (Some s) stamp (f ∷ fs) (inr h) = let rest = data_fits (Some s) stamp fs (inr h) in ((same_Some s stamp h, rest.0), rest.1)

pub takes_known : (seen : Seen) (last : Option Stamp) (stamp : Stamp) → Knows seen last → Takes seen stamp → (last ≡ None) ⊎ (last ≡ Some stamp)
takes_known Nothing last stamp known takes = inl known
takes_known (Layout s) last stamp known takes = subst (λ (x : Stamp). (last ≡ None) ⊎ (last ≡ Some x)) takes known
takes_known Unsure last stamp known takes = absurd takes

-- replies that may be layout frames fit, and what the consumer has then is known
abbrev pub Later : Seen → Option Stamp → List ℕ → Option Stamp → Type 0
Later seen stamp replies last = Knows (seen_after seen (replied stamp replies)) last

layouts_fit : (stamp : Stamp) (byte : ℕ) (bytes : List ℕ) (last : Option Stamp) (pieces : List Piece) → AreReplied (Some stamp) (byte ∷ bytes) pieces
    → Fit last pieces × ((last_of last pieces ≡ last) ⊎ (last_of last pieces ≡ Some stamp))
layouts_fit stamp byte bytes last [] are = (tt, inl refl)
layouts_fit stamp byte bytes last (piece ∷ pieces) are =
    let rest = layouts_fit stamp byte bytes (Some stamp) pieces are.1 in
    let settled : last_of (Some stamp) pieces ≡ Some stamp = elim rest.1 as (λ _. last_of (Some stamp) pieces ≡ Some stamp) [ inl e ↦ e | inr e ↦ e ] in
    subst (λ (p : Piece). Fit last (p ∷ pieces) × ((last_of last (p ∷ pieces) ≡ last) ⊎ (last_of last (p ∷ pieces) ≡ Some stamp))) (sym are.0) ((tt, rest.0), inr settled)

pub joined_known : (seen : Seen) (stamp : Stamp) (last now : Option Stamp) → Knows seen last → (now ≡ last) ⊎ (now ≡ Some stamp) → Knows (seen_after seen (Some stamp)) now
joined_known Nothing stamp last now known (inl same) = inl (same ∙ known)
joined_known Nothing stamp last now known (inr is) = inr is
joined_known (Layout before) stamp last now known how =
    let if_same : is_stamp before stamp ≡ true → Knows (Layout before) now = λ is.
    elim how as (λ _. Knows (Layout before) now)
    [ inl same ↦ subst (λ (x : Option Stamp). Knows (Layout before) x) (sym same) known | inr e ↦ inr (e ∙ ap Some (sym (same_stamp before stamp is))) ] in
    let both : (b : Bool) → (b ≡ true → Knows (Layout before) now) → Knows (cond b (Layout before) Unsure) now =
    λ b. elim b as (λ (b : Bool). (b ≡ true → Knows (Layout before) now) → Knows (cond b (Layout before) Unsure) now) [ true ↦ λ f. f refl | false ↦ λ f. tt ] in
    both (is_stamp before stamp) if_same
joined_known Unsure stamp last now known how = tt

replies_fit : (seen : Seen) (stamp : Option Stamp) (replies : List ℕ) (last : Option Stamp) (pieces : List Piece) → Knows seen last → AreReplied stamp replies pieces
    → Fit last pieces × Later seen stamp replies (last_of last pieces)
replies_fit seen stamp [] last [] known are = (tt, known)
replies_fit seen None (byte ∷ bytes) last [] known are = (tt, known)
replies_fit seen (Some stamp) (byte ∷ bytes) last [] known are = (tt, joined_known seen stamp last last known (inl refl))
replies_fit seen None [] last (piece ∷ pieces) known are = absurd are
replies_fit seen None (byte ∷ bytes) last (piece ∷ pieces) known are = absurd are
replies_fit seen (Some stamp) [] last (piece ∷ pieces) known are = absurd are
replies_fit seen (Some stamp) (byte ∷ bytes) last (piece ∷ pieces) known are =
    let fit = layouts_fit stamp byte bytes last (piece ∷ pieces) are in
    (fit.0, joined_known seen stamp last (last_of last (piece ∷ pieces)) known fit.1)

-- and so does what is given of the stream
given_fits : (stream : Stream) (before now : Place) (out grown : List ℕ) (given : IsGiven stream before out now grown) (last : Option Stamp) → Knows before.seen last
    → Fit last (given_pieces given) × Knows now.seen (last_of last (given_pieces given))
given_fits stream before now out grown (inl given) last known =
    let may = takes_known before.seen last given.stamp known given.takes in
    let fit = data_fits last given.stamp given.frames may in (
      fit.0,
      subst (λ (s : Seen). Knows s (last_of last (map (λ (frame : Kept). data_piece given.stamp) given.frames))) (sym given.seen)
          (subst (λ (l : Option Stamp). Knows (Layout given.stamp) l) (sym fit.1) may),
    )
given_fits stream before now out grown (inr told) last known = ((tt, tt), subst (λ (s : Seen). Knows s (Some told.stamp)) (sym told.seen) (inr refl))

turn_fits : (before later : Standing) (pieces : List Piece) (turn : TurnWrites before later pieces) (last : Option Stamp) → Knows before.place.seen last
    → Fit last pieces × Knows later.place.seen (last_of last pieces)
turn_fits before later pieces turn last known =
    let w = turn.whole in
    let replied_pieces = turn.written.0 in
    let replies = replies_fit before.place.seen w.stamp w.replies last replied_pieces known turn.written.1 in
    elim turn.written.2 as (λ _. Fit last pieces × Knows later.place.seen (last_of last pieces)) [
      | inl off ↦ subst (λ (ps : List Piece). Fit last ps × Knows later.place.seen (last_of last ps)) (sym off.1)
          (replies.0, subst (λ (p : Place). Knows p.seen (last_of last replied_pieces)) (sym (w.off off.0).0) replies.1)
      | inr on ↦
          let given = given_fits turn.dated.stream (place_after before.place w.stamp w.replies) later.place w.replies turn.made (w.on on.0) (last_of last replied_pieces) replies.1 in
          subst (λ (ps : List Piece). Fit last ps × Knows later.place.seen (last_of last ps)) (sym on.1) (
            fit-append last replied_pieces (given_pieces (w.on on.0)) replies.0 given.0,
            subst (λ (l : Option Stamp). Knows later.place.seen l) (sym (last-append last replied_pieces (given_pieces (w.on on.0)))) given.1,
          )
    ]

turns_fit : (before : Standing) (standings : List Standing) (written : List (List Piece)) (last : Option Stamp) → Knows before.place.seen last → TurnsWrite before standings written → Fit last (joined_pieces written)
turns_fit before [] [] last known turns = tt
turns_fit before [] (pieces ∷ written) last known turns = absurd turns
turns_fit before (later ∷ standings) [] last known turns = absurd turns
turns_fit before (later ∷ standings) (pieces ∷ written) last known turns =
    let turn = turn_fits before later pieces turns.0 last known in
    fit-append last pieces (joined_pieces written) turn.0 (turns_fit later standings written (last_of last pieces) turn.1 turns.1)

pub data_fits_its_layout : (before : Standing) (standings : List Standing) (written : List (List Piece)) → before.place ≡ first_place → TurnsWrite before standings written → Fit None (joined_pieces written)
data_fits_its_layout before standings written first turns =
    turns_fit before standings written None (subst (λ (p : Place). Knows p.seen None) (sym first) refl) turns
