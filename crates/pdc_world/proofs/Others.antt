-- What happens to one core leaves the others where they have come to.
use Rattle.std.proofs.Common.{◌∷◌, ◌≡◌, Bool, cond, false, List, None, Some, subst, sym, true}
use Rattle.pdc_world.proofs.Names.{begun_with, Comes, Ends, Entry, Given, given_by, given_in, Happened, HasCome, is_own, is_same, lead_of, life_of, mark_of, opened_with, Pop, Publishes, reserved, same_who, Seat, since, Stored, Ticks, Who, with_counts_of, with_entry, World}

another : (v who w : Who) → is_same v who ≡ true → is_same who w ≡ false → is_same v w ≡ false
another v who w own other = subst (λ (x : Who). is_same x w ≡ false) (sym (same_who v who own)) other

no_entry : (W : World) (H : List Happened) (w : Who) (b : Bool) (e : Entry) (Stands : Given → List Entry → Type 0) → b ≡ false → Stands (given_in W H w) (life_of H w)
    → Stands (given_in W H w) (with_entry (cond b (Some e) None) (life_of H w))
no_entry W H w false e Stands none stands = stands
no_entry W H w true e Stands none stands = cc

no_mark : (b : Bool) (changed mark stored : Stored) → b ≡ false → stored ≡ mark → stored ≡ cond b changed mark
no_mark false changed mark stored none e = e
no_mark true changed mark stored none e = cc

no_end : (W : World) (H : List Happened) (w : Who) (b : Bool) (mark : Stored) (Stands : Given → List Entry → Type 0) → b ≡ false → Stands (given_in W H w) (life_of H w)
    → Stands (given_by W w (begun_with (cond b (Some mark) None) (opened_with W H w))) (since (cond b (Some mark) None) (life_of H w))
no_end W H w false mark Stands none stands = stands
no_end W H w true mark Stands none stands = cc

no_begin : (b : Bool) (begun mark stored : Stored) → b ≡ false → stored ≡ mark → stored ≡ begun_with (cond b (Some begun) None) mark
no_begin false begun mark stored none e = e
no_begin true begun mark stored none e = cc

pub others_stay : (W : World) (H : List Happened) (h : Happened) (who w : Who) (seat : Seat) → is_own who h ≡ true → is_same who w ≡ false
    → HasCome W H w seat → HasCome W (h ∷ H) w seat
others_stay W H (Comes v e) who w seat own other come = record {
  stands = no_entry W H w (is_same v w) e seat.stands (another v who w own other) come.stands;
  mark = come.mark;
}
others_stay W H (Ticks v e) who w seat own other come = record {
  stands = no_entry W H w (is_same v w) e seat.stands (another v who w own other) come.stands;
  mark = no_mark (is_same v w) (with_counts_of e (mark_of W H w)) (mark_of W H w) seat.mark (another v who w own other) come.mark;
}
others_stay W H (Publishes v row) who w seat own other come = record {
  stands = no_entry W H w (is_same v w) (Pop row) seat.stands (another v who w own other) come.stands;
  mark = no_mark (is_same v w) (reserved (lead_of W w) row (mark_of W H w)) (mark_of W H w) seat.mark (another v who w own other) come.mark;
}
others_stay W H (Ends v begun) who w seat own other come = record {
  stands = no_end W H w (is_same v w) begun seat.stands (another v who w own other) come.stands;
  mark = no_begin (is_same v w) begun (mark_of W H w) seat.mark (another v who w own other) come.mark;
}
others_stay W H h who w seat own other come = record { stands = come.stands; mark = come.mark }
