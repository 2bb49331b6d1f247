-- Moments of a history: where a step of a life, and a frame that was sent, stand in it.
use Rattle.std.proofs.Common.{[], ◌++◌, ◌∙◌, ◌∷◌, ◌≡◌, ap, arith, inl, inr, List, None, Option, refl, Some, subst, sym, true, ℕ}
use Rattle.pdc_history.proofs.Names.{A, B, begins_at, begun_with, Contains, Contains-append_cases, Contains-append_left, Contains-append_right, Entry, entry_at, EventsMakeHistories, false≢true, given_by, given_in, Happened, happens, is_same, IsHistory, life_of, M, MayBegin, opened_with, sent, sent_at, since, Stored, Who, with_entry, World}
use Rattle.pdc_history.proofs.Lists.{head_of, not_empty, tail_of}

pub same_who : (v w : Who) → is_same v w ≡ true → v ≡ w
same_who A A h = refl
same_who B B h = refl
same_who M M h = refl
same_who v w h = absurd (false≢true h)

pub is_itself : (w : Who) → is_same w w ≡ true
is_itself A = refl
is_itself w = refl

-- ---- earlier histories

pub before : (W : World) (later H : List Happened) → IsHistory W (later ++ H) → IsHistory W H
before W [] H is = is
before W (h ∷ later) H is = before W later H is.1

pub began : (W : World) (H : List Happened) → IsHistory W H → MayBegin W
began W [] is = is
began W (h ∷ H) is = began W H is.1

pub events_make_histories : EventsMakeHistories
events_make_histories W H [] is may = is
events_make_histories W H (event ∷ events) is may =
    events_make_histories W (happens W H event ∷ H) events (record { event = event; may = may.0; made = refl }, is) may.1

-- ---- a step of the present life

-- the step is what happened after this earlier history, in which the same life had the steps before it
pub record Moment (W : World) (H : List Happened) (who : Who) (e : Entry) (E : List Entry) : Type 0 where
  pub later : List Happened
  pub h : Happened
  pub earlier : List Happened
  pub stands : H ≡ later ++ h ∷ earlier
  pub entry : entry_at who h ≡ Some e
  pub quiet : begins_at who h ≡ None
  pub life : life_of earlier who ≡ E
  pub opened : opened_with W earlier who ≡ opened_with W H who

pub none_begun : (b : Option Stored) (mark : Stored) → b ≡ None → mark ≡ begun_with b mark
none_begun b mark e = ap (λ (o : Option Stored). begun_with o mark) (sym e)

later_moment : (W : World) (H : List Happened) (h : Happened) (who : Who) (e : Entry) (E : List Entry) → begins_at who h ≡ None → Moment W H who e E → Moment W (h ∷ H) who e E
later_moment W H h who e E quiet m = record {
  later = h ∷ m.later;
  h = m.h;
  earlier = m.earlier;
  stands = ap (λ (hs : List Happened). h ∷ hs) m.stands;
  entry = m.entry;
  quiet = m.quiet;
  life = m.life;
  opened = m.opened ∙ none_begun (begins_at who h) (opened_with W H who) quiet;
}

this_moment : (W : World) (H : List Happened) (h : Happened) (who : Who) (e x : Entry) (E : List Entry) → begins_at who h ≡ None → entry_at who h ≡ Some x → x ≡ e → life_of H who ≡ E → Moment W (h ∷ H) who e E
this_moment W H h who e x E quiet entry same life = record {
  later = [];
  h = h;
  earlier = H;
  stands = refl;
  entry = subst (λ (y : Entry). entry_at who h ≡ Some y) same entry;
  quiet = quiet;
  life = life;
  opened = none_begun (begins_at who h) (opened_with W H who) quiet;
}

moment_at : (W : World) (H : List Happened) (h : Happened) (who : Who) (later : List Entry) (e : Entry) (E : List Entry) (b : Option Stored) (o : Option Entry)
    → begins_at who h ≡ b → entry_at who h ≡ o → since b (with_entry o (life_of H who)) ≡ later ++ e ∷ E
    → ((more : List Entry) → life_of H who ≡ more ++ e ∷ E → Moment W H who e E) → Moment W (h ∷ H) who e E
moment_at W H h who later e E (Some mark) o begins entry q k = absurd (not_empty later E e q)
moment_at W H h who later e E None None begins entry q k = later_moment W H h who e E begins (k later q)
moment_at W H h who [] e E None (Some x) begins entry q k =
    this_moment W H h who e x E begins entry (head_of q) (tail_of q)
moment_at W H h who (y ∷ later) e E None (Some x) begins entry q k =
    later_moment W H h who e E begins (k later (tail_of q))

pub moment : (W : World) (H : List Happened) (who : Who) (later : List Entry) (e : Entry) (E : List Entry) → life_of H who ≡ later ++ e ∷ E → Moment W H who e E
moment W [] who later e E q = absurd (not_empty later E e q)
moment W (h ∷ H) who later e E q =
    moment_at W H h who later e E (begins_at who h) (entry_at who h) refl refl q (λ more. moment W H who more e E)

-- a moment stands in the history, and what happened there was made
pub then : (W : World) (H : List Happened) (who : Who) (e : Entry) (E : List Entry) → IsHistory W H → (m : Moment W H who e E) → IsHistory W (m.h ∷ m.earlier)
then W H who e E is m = before W m.later (m.h ∷ m.earlier) (subst (IsHistory W) m.stands is)

pub given_then : (W : World) (H : List Happened) (who : Who) (e : Entry) (E : List Entry) → (m : Moment W H who e E) → given_in W m.earlier who ≡ given_in W H who
given_then W H who e E m = ap (λ (mark : Stored). given_by W who mark) m.opened

-- ---- what was sent

pub record WasSentAt (W : World) (H : List Happened) (bytes : List ℕ) : Type 0 where
  pub later : List Happened
  pub h : Happened
  pub earlier : List Happened
  pub stands : H ≡ later ++ h ∷ earlier
  pub among : Contains (sent_at W earlier h) bytes

sent_before : (W : World) (H : List Happened) (h : Happened) (bytes : List ℕ) → WasSentAt W H bytes → WasSentAt W (h ∷ H) bytes
sent_before W H h bytes s = record {
  later = h ∷ s.later;
  h = s.h;
  earlier = s.earlier;
  stands = ap (λ (hs : List Happened). h ∷ hs) s.stands;
  among = s.among;
}

pub was_sent_at : (W : World) (H : List Happened) (bytes : List ℕ) → Contains (sent W H) bytes → WasSentAt W H bytes
was_sent_at W [] bytes k = absurd (omega (arith, k.1))
was_sent_at W (h ∷ H) bytes k = elim (Contains-append_cases (sent W H) (sent_at W H h) bytes k) [
  | inl a ↦ sent_before W H h bytes (was_sent_at W H bytes a)
  | inr b ↦ record { later = []; h = h; earlier = H; stands = refl; among = b }
]

pub stays_sent : (W : World) (later H : List Happened) (bytes : List ℕ) → Contains (sent W H) bytes → Contains (sent W (later ++ H)) bytes
stays_sent W [] H bytes k = k
stays_sent W (h ∷ later) H bytes k =
    Contains-append_left (sent W (later ++ H)) (sent_at W (later ++ H) h) bytes (stays_sent W later H bytes k)

pub sent_now : (W : World) (H : List Happened) (h : Happened) (bytes : List ℕ) → Contains (sent_at W H h) bytes → Contains (sent W (h ∷ H)) bytes
sent_now W H h bytes k = Contains-append_right (sent W H) (sent_at W H h) bytes k
