-- What a core has come to, with one thing more that happened to it.
use Rattle.std.proofs.Common.{[], ◌∷◌, ◌≡◌, List, Option, refl}
use Rattle.pdc_history.specs.declared.who.Who.{Who as WhoData}
use Rattle.pdc_world.proofs.Names.{A, Comes, Ends, Entry, given_by, given_in, Happened, HasCome, lead_of, life_of, mark_of, name_of, PassesBy, Pop, Publishes, reserved, RowView, Seat, Stored, Ticks, Who, who_of, with_counts_of, World}
use Rattle.pdc_history.specs.declared.who.Who.TheVariants as who

pub name_back : (w : WhoData) → name_of (who_of w) ≡ w
name_back who.A = refl
name_back w = refl

pub come_comes : (W : World) (H : List Happened) (v : Who) (e : Entry) (seat : Seat) → seat.stands (given_in W H v) (e ∷ life_of H v)
    → seat.mark ≡ mark_of W H v → HasCome W (Comes v e ∷ H) v seat
come_comes W H A e seat stands mark = record { stands = stands; mark = mark }
come_comes W H v e seat stands mark = record { stands = stands; mark = mark }

pub come_ticks : (W : World) (H : List Happened) (v : Who) (e : Entry) (seat : Seat) → seat.stands (given_in W H v) (e ∷ life_of H v)
    → seat.mark ≡ with_counts_of e (mark_of W H v) → HasCome W (Ticks v e ∷ H) v seat
come_ticks W H A e seat stands mark = record { stands = stands; mark = mark }
come_ticks W H v e seat stands mark = record { stands = stands; mark = mark }

pub come_publishes : (W : World) (H : List Happened) (v : Who) (row : Option RowView) (seat : Seat) → seat.stands (given_in W H v) (Pop row ∷ life_of H v)
    → seat.mark ≡ reserved (lead_of W v) row (mark_of W H v) → HasCome W (Publishes v row ∷ H) v seat
come_publishes W H A row seat stands mark = record { stands = stands; mark = mark }
come_publishes W H v row seat stands mark = record { stands = stands; mark = mark }

pub come_ends : (W : World) (H : List Happened) (v : Who) (begun : Stored) (seat : Seat) → seat.stands (given_by W v begun) []
    → seat.mark ≡ begun → HasCome W (Ends v begun ∷ H) v seat
come_ends W H A begun seat stands mark = record { stands = stands; mark = mark }
come_ends W H v begun seat stands mark = record { stands = stands; mark = mark }

pub come_passes : (W : World) (H : List Happened) (v : Who) (seat : Seat) → HasCome W H v seat → HasCome W (PassesBy v ∷ H) v seat
come_passes W H v seat come = record { stands = come.stands; mark = come.mark }
