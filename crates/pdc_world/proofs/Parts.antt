-- The seats of a world, and a world in which something happened to one of them.
use Rattle.std.proofs.Common.{◌∙◌, ◌∷◌, ◌≡◌, Bool, Err, false, IfErr, IfOk, List, Ok, OnErr, refl, Result, subst, sym, true}
use Rattle.pdc_world.proofs.Names.{A, Asked, B, CoreOf, Fault, Happened, Holds, HoldsSome, is_own, is_same, IsAct, IsAnswered, IsMade, IsPart, IsRefused, IsSeat, IsSeated, IsSomePart, IsWhy, Keeps, kind_in, LedgerView, M, Reply, seat_of, station_of, StationView, Who, World, WorldView}
use Rattle.pdc_world.proofs.Others.{others_stay}

-- ---- one seat

is_seat : (W : World) (H : List Happened) (who : Who) (station : StationView (CoreOf who)) → IsSeated W H who station → IsSeat W who (seat_of who station)
is_seat W H who station seated = record { kind = seated.kind; lead = seated.lead }

part_at : (W : World) (H : List Happened) (v : WorldView) (who w : Who) → w ≡ who → Holds W H v → IsPart W H w (seat_of who (station_of v who)) v.ledger
part_at W H v who w same h =
    subst (λ (x : Who). IsPart W H x (seat_of who (station_of v who)) v.ledger) (sym same)
    (record { history = h.history; one = is_seat W H who (station_of v who) (h.seats who); come = (h.seats who).come; keeps = h.ledger })

pub some_at : (v : WorldView) (who w : Who) → w ≡ who → HoldsSome v → IsSomePart w (seat_of who (station_of v who)) v.ledger
some_at v who w same some = λ none. some (λ W H h. none W H (part_at W H v who w same h))

-- ---- the seat of one is replaced

abbrev pub with_station : (v : WorldView) (who : Who) → StationView (CoreOf who) → LedgerView → Bool → WorldView
with_station v A station l r = record { a = station; b = v.b; m = v.m; ledger = l; has_room = r }
with_station v B station l r = record { a = v.a; b = station; m = v.m; ledger = l; has_room = r }
with_station v M station l r = record { a = v.a; b = v.b; m = station; ledger = l; has_room = r }

stays : (W : World) (H : List Happened) (h : Happened) (who w : Who) (station : StationView (CoreOf w)) → is_own who h ≡ true → is_same who w ≡ false → IsSeated W H w station
    → IsSeated W (h ∷ H) w station
stays W H h who w station own other old = record { kind = old.kind; lead = old.lead; come = others_stay W H h who w (seat_of w station) own other old.come }

seats_after : (W : World) (H : List Happened) (h : Happened) (v : WorldView) (who : Who) (station : StationView (CoreOf who)) (l : LedgerView) (r : Bool) → is_own who h ≡ true
    → ((w : Who) → IsSeated W H w (station_of v w)) → IsSeated W (h ∷ H) who station → (w : Who) → IsSeated W (h ∷ H) w (station_of (with_station v who station l r) w)
seats_after W H h v A station l r own old new A = new
seats_after W H h v B station l r own old new B = new
seats_after W H h v M station l r own old new M = new
seats_after W H h v who station l r own old new w = stays W H h who w (station_of v w) own refl (old w)

same_ledger : (v : WorldView) (who : Who) (station : StationView (CoreOf who)) (l : LedgerView) (r : Bool) → l ≡ (with_station v who station l r).ledger
same_ledger v A station l r = refl
same_ledger v who station l r = refl

moved : (W : World) (H : List Happened) (asked : Asked) (reply : Reply) (v : WorldView) (who : Who) (station : StationView (CoreOf who)) (l : LedgerView) (r : Bool) → Holds W H v
    → kind_in who station.core ≡ kind_in who (station_of v who).core → station.lead ≡ (station_of v who).lead → IsAct W H who asked (seat_of who station) l reply
    → IsAnswered W H asked reply (with_station v who station l r)
moved W H asked reply v who station l r h kind lead act = record {
  happened = act.happened;
  step = act.step;
  holds = record {
    history = (record { event = act.step.event; may = act.step.may; made = act.step.made }, h.history);
    seats =
        seats_after W H act.happened v who station l r act.own h.seats
        (record { kind = kind ∙ (h.seats who).kind; lead = lead ∙ (h.seats who).lead; come = act.come });
    ledger = subst (Keeps W (act.happened ∷ H)) (same_ledger v who station l r) act.keeps;
  };
  told = act.told;
}

answered_at : (W : World) (H : List Happened) (asked : Asked) (v : WorldView) (who w : Who) (station : StationView (CoreOf who)) (l : LedgerView) (r : Bool) (result : Result Reply Fault)
    → w ≡ who → Holds W H v → kind_in who station.core ≡ kind_in who (station_of v who).core → station.lead ≡ (station_of v who).lead
    → IfOk result (IsAct W H w asked (seat_of who station) l) → IfOk result (λ (reply : Reply). IsAnswered W H asked reply (with_station v who station l r))
answered_at W H asked v who w station l r (Ok reply) same h kind lead act =
    moved W H asked reply v who station l r h kind lead (subst (λ (x : Who). IsAct W H x asked (seat_of who station) l reply) same act)
answered_at W H asked v who w station l r (Err fault) same h kind lead act = tt

-- ---- the contract of an act is that of the world

pub made_at : (asked : Asked) (v : WorldView) (who w : Who) (station : StationView (CoreOf who)) (l : LedgerView) (r : Bool) (result : Result Reply Fault) → w ≡ who
    → kind_in who station.core ≡ kind_in who (station_of v who).core → station.lead ≡ (station_of v who).lead
    → IsMade w asked (seat_of who (station_of v who)) (seat_of who station) v.ledger l result
    → (W : World) (H : List Happened) → Holds W H v → IfOk result (λ (reply : Reply). IsAnswered W H asked reply (with_station v who station l r))
made_at asked v who w station l r result same kind lead made W H h =
    answered_at W H asked v who w station l r result same h kind lead (made W H (part_at W H v who w same h))

pub why_at : (asked : Asked) (v : WorldView) (who w : Who) (result : Result Reply Fault) → w ≡ who → IsRefused w asked (seat_of who (station_of v who)) v.ledger result
    → (W : World) (H : List Happened) → Holds W H v → IfErr result (IsWhy W H asked)
why_at asked v who w result same refused W H h = refused W H (part_at W H v who w same h)

-- What a step leaves is held by some history again.
pub some_again : (asked : Asked) (v new : WorldView) (result : Result Reply Fault) → HoldsSome v
    → ((W : World) (H : List Happened) → Holds W H v → IfOk result (λ (reply : Reply). IsAnswered W H asked reply new)) → OnErr result (new ≡ v) → HoldsSome new
some_again asked v new (Ok reply) some made same = λ none. some (λ W H holds. none W ((made W H holds).happened ∷ H) (made W H holds).holds)
some_again asked v new (Err fault) some made same = subst HoldsSome (sym same) some

-- So is one whose ledger made room.
pub room_again : (v : WorldView) (l : LedgerView) (r : Bool) → l ≡ v.ledger → HoldsSome v → HoldsSome (record { a = v.a; b = v.b; m = v.m; ledger = l; has_room = r })
room_again v l r same some = λ none. some (λ W H h. none W H (record {
  history = h.history;
  seats = elim [ A ↦ h.seats A | B ↦ h.seats B | M ↦ h.seats M ];
  ledger = subst (Keeps W H) (sym same) h.ledger;
}))

pub on_err_map : {A B P Q : Type 0} (result : Result A B) → (P → Q) → OnErr result P → OnErr result Q
on_err_map (Ok x) f p = tt
on_err_map (Err x) f p = f p
