-- Turn by turn, what a consumer has of the last frame is known.
use Rattle.std.proofs.Common.{◌≡◌, ◌⊎◌, refl, sym, subst, inl, inr, ℕ, List, [], ◌∷◌, ◌++◌, Option, None}
use Rattle.std.specs.Prelude.{Some, map}
use Rattle.std.proofs.lemmas.Option.{none-some, same_Some}
use Rattle.pdc_session.specs.Recent.{Kept}
use Rattle.pdc_server.specs.Fits.{AreReplied, Follow, Piece, TurnWrites, TurnsWrite, data_piece, given_pieces, joined_pieces, last_seen}
use Rattle.pdc_server.specs.Given.{IsGiven}
use Rattle.pdc_server.specs.Places.{first_place}
use Rattle.pdc_server.specs.Stream.{Stream}
use Rattle.pdc_server.specs.Turn.{Standing, place_after}
use Rattle.pdc_server.specs.declared.place.Place.{Place}
use Rattle.pdc_server.specs.declared.place.Seen.{Seen}
use Rattle.pdc_server.specs.declared.place.Seen.TheVariants.{Layout}
use Rattle.pdc_server.specs.declared.stamp.Stamp.{Stamp}
use Rattle.pdc_server.proofs.Fitting.{Knows, Later, joined_known, takes_known}

follow-append : (last : Option Stamp) (first second : List Piece) → Follow last first → Follow (last_seen last first) second → Follow last (first ++ second)
follow-append last [] second f s = s
follow-append last (piece ∷ pieces) second f s = (f.0, follow-append _ pieces second f.1 s)

seen-append : (last : Option Stamp) (first second : List Piece) → last_seen last (first ++ second) ≡ last_seen (last_seen last first) second
seen-append last [] second = refl
seen-append last (piece ∷ pieces) second = seen-append _ pieces second

-- data frames of a layout that may come next
data_follow : (last : Option Stamp) (stamp : Stamp) (frames : List Kept) → (last ≡ None) ⊎ (last ≡ Some stamp)
    → Follow last (map (λ (frame : Kept). data_piece stamp) frames) × Knows (Layout stamp) (last_seen last (map (λ (frame : Kept). data_piece stamp) frames))
data_follow last stamp [] h = (tt, h)
data_follow None stamp (f ∷ fs) h = let rest = data_follow (Some stamp) stamp fs (inr refl) in ((tt, rest.0), rest.1)
data_follow (Some s) stamp (f ∷ fs) (inl h) = absurd (none-some _ (sym h))
data_follow (Some s) stamp (f ∷ fs) (inr h) = let rest = data_follow (Some stamp) stamp fs (inr refl) in ((same_Some s stamp h, rest.0), rest.1)

layouts_follow : (stamp : Stamp) (byte : ℕ) (bytes : List ℕ) (last : Option Stamp) (pieces : List Piece) → AreReplied (Some stamp) (byte ∷ bytes) pieces
    → Follow last pieces × ((last_seen last pieces ≡ last) ⊎ (last_seen last pieces ≡ Some stamp))
layouts_follow stamp byte bytes last [] are = (tt, inl refl)
layouts_follow stamp byte bytes last (piece ∷ pieces) are =
    let rest = layouts_follow stamp byte bytes (Some stamp) pieces are.1 in
    let settled : last_seen (Some stamp) pieces ≡ Some stamp = elim rest.1 as (λ _. last_seen (Some stamp) pieces ≡ Some stamp) [ inl e ↦ e | inr e ↦ e ] in
    subst (λ (p : Piece). Follow last (p ∷ pieces) × ((last_seen last (p ∷ pieces) ≡ last) ⊎ (last_seen last (p ∷ pieces) ≡ Some stamp))) (sym are.0) ((tt, rest.0), inr settled)

replies_follow : (seen : Seen) (stamp : Option Stamp) (replies : List ℕ) (last : Option Stamp) (pieces : List Piece) → Knows seen last → AreReplied stamp replies pieces
    → Follow last pieces × Later seen stamp replies (last_seen last pieces)
replies_follow seen stamp [] last [] known are = (tt, known)
replies_follow seen None (byte ∷ bytes) last [] known are = (tt, known)
replies_follow seen (Some stamp) (byte ∷ bytes) last [] known are = (tt, joined_known seen stamp last last known (inl refl))
replies_follow seen None [] last (piece ∷ pieces) known are = absurd are
replies_follow seen None (byte ∷ bytes) last (piece ∷ pieces) known are = absurd are
replies_follow seen (Some stamp) [] last (piece ∷ pieces) known are = absurd are
replies_follow seen (Some stamp) (byte ∷ bytes) last (piece ∷ pieces) known are =
    let follow = layouts_follow stamp byte bytes last (piece ∷ pieces) are in
    (follow.0, joined_known seen stamp last (last_seen last (piece ∷ pieces)) known follow.1)

-- and so does what is given of the stream
given_follows : (stream : Stream) (before now : Place) (out grown : List ℕ) (given : IsGiven stream before out now grown) (last : Option Stamp) → Knows before.seen last
    → Follow last (given_pieces given) × Knows now.seen (last_seen last (given_pieces given))
given_follows stream before now out grown (inl given) last known =
    let may = takes_known before.seen last given.stamp known given.takes in
    let follow = data_follow last given.stamp given.frames may in
    (follow.0, subst (λ (s : Seen). Knows s (last_seen last (map (λ (frame : Kept). data_piece given.stamp) given.frames))) (sym given.seen) follow.1)
given_follows stream before now out grown (inr told) last known = ((tt, tt), subst (λ (s : Seen). Knows s (Some told.stamp)) (sym told.seen) (inr refl))

turn_follows : (before later : Standing) (pieces : List Piece) (turn : TurnWrites before later pieces) (last : Option Stamp) → Knows before.place.seen last
    → Follow last pieces × Knows later.place.seen (last_seen last pieces)
turn_follows before later pieces turn last known =
    let w = turn.whole in
    let replied_pieces = turn.written.0 in
    let replies = replies_follow before.place.seen w.stamp w.replies last replied_pieces known turn.written.1 in
    elim turn.written.2 as (λ _. Follow last pieces × Knows later.place.seen (last_seen last pieces)) [
      | inl off ↦ subst (λ (ps : List Piece). Follow last ps × Knows later.place.seen (last_seen last ps)) (sym off.1)
          (replies.0, subst (λ (p : Place). Knows p.seen (last_seen last replied_pieces)) (sym (w.off off.0).0) replies.1)
      | inr on ↦
          let given = given_follows turn.dated.stream (place_after before.place w.stamp w.replies) later.place w.replies turn.made (w.on on.0) (last_seen last replied_pieces) replies.1 in
          subst (λ (ps : List Piece). Follow last ps × Knows later.place.seen (last_seen last ps)) (sym on.1) (
            follow-append last replied_pieces (given_pieces (w.on on.0)) replies.0 given.0,
            subst (λ (l : Option Stamp). Knows later.place.seen l) (sym (seen-append last replied_pieces (given_pieces (w.on on.0)))) given.1,
          )
    ]

turns_follow : (before : Standing) (standings : List Standing) (written : List (List Piece)) (last : Option Stamp) → Knows before.place.seen last → TurnsWrite before standings written → Follow last (joined_pieces written)
turns_follow before [] [] last known turns = tt
turns_follow before [] (pieces ∷ written) last known turns = absurd turns
turns_follow before (later ∷ standings) [] last known turns = absurd turns
turns_follow before (later ∷ standings) (pieces ∷ written) last known turns =
    let turn = turn_follows before later pieces turns.0 last known in
    follow-append last pieces (joined_pieces written) turn.0 (turns_follow later standings written (last_seen last pieces) turn.1 turns.1)

pub layouts_are_told_first : (before : Standing) (standings : List Standing) (written : List (List Piece)) → before.place ≡ first_place → TurnsWrite before standings written → Follow None (joined_pieces written)
layouts_are_told_first before standings written first turns =
    turns_follow before standings written None (subst (λ (p : Place). Knows p.seen None) (sym first) refl) turns
