-- Bytes that come to the stream that they name.
use Rattle.std.proofs.Common.{◌∙◌, ◌≡◌, ap, Bool, false, inl, inr, IsTrue, length, List, not, refl, Some, subst, sym, true, ℕ}
use Rattle.pdc_world.proofs.Names.{Arrival, Bring, Contains, Happened, IsForOne, IsNamed, IsReadOf, IsUnnamed, Junk, kind_of, MayCome, Miss, place_there, Says, sent, slice_get, slice_get_read, stream_ids, To, Who, World}

pub read_to : (W : World) (H : List Happened) (v : Who) (number s : ℕ) (ids bytes : List ℕ) (frames : List (List ℕ)) (arrival : Arrival) → frames ≡ sent W H
    → slice_get frames number ≡ Some bytes → ids ≡ stream_ids (kind_of W v) → IsNamed ids bytes s → Says (kind_of W v) s bytes arrival → IsReadOf W H (To v number) (Bring v s bytes arrival)
read_to W H v number s ids bytes frames arrival same there ids_same named says = record {
  bytes = bytes;
  there = ap (λ (xs : List (List ℕ)). slice_get xs number) (sym same) ∙ there;
  read = inl (record {
    stream = s;
    names = subst (λ (xs : List ℕ). IsNamed xs bytes s) ids_same named;
    brings = record { arrival = arrival; says = says; is = refl };
  });
}

pub may_to : (W : World) (H : List Happened) (v : Who) (number s : ℕ) (bytes : List ℕ) (frames : List (List ℕ)) (arrival : Arrival) → frames ≡ sent W H
    → slice_get frames number ≡ Some bytes → Says (kind_of W v) s bytes arrival → MayCome W H v s bytes arrival
may_to W H v number s bytes frames arrival same there says = record {
  says = says;
  was_sent = λ is_for_one. place_there (sent W H) number bytes (ap (λ (xs : List (List ℕ)). slice_get xs number) (sym same) ∙ there);
}

pub read_past : (W : World) (H : List Happened) (v : Who) (number : ℕ) (ids bytes : List ℕ) (frames : List (List ℕ)) → frames ≡ sent W H
    → slice_get frames number ≡ Some bytes → ids ≡ stream_ids (kind_of W v) → IsUnnamed ids bytes → IsReadOf W H (To v number) (Miss v)
read_past W H v number ids bytes frames same there ids_same unnamed = record {
  bytes = bytes;
  there = ap (λ (xs : List (List ℕ)). slice_get xs number) (sym same) ∙ there;
  read = inr (subst (λ (xs : List ℕ). IsUnnamed xs bytes) ids_same unnamed, refl);
}

pub read_named : (W : World) (H : List Happened) (v : Who) (s : ℕ) (ids bytes : List ℕ) (arrival : Arrival) → ids ≡ stream_ids (kind_of W v) → IsNamed ids bytes s
    → Says (kind_of W v) s bytes arrival → IsReadOf W H (Junk v bytes) (Bring v s bytes arrival)
read_named W H v s ids bytes arrival same named says = inl (record { stream = s; names = subst (λ (xs : List ℕ). IsNamed xs bytes s) same named; brings = record { arrival = arrival; says = says; is = refl } })

pub read_unnamed : (W : World) (H : List Happened) (v : Who) (s : ℕ) (ids bytes : List ℕ) (arrival : Arrival) → s ≡ 0 → ids ≡ stream_ids (kind_of W v) → IsUnnamed ids bytes
    → Says (kind_of W v) s bytes arrival → IsReadOf W H (Junk v bytes) (Bring v s bytes arrival)
read_unnamed W H v s ids bytes arrival first same unnamed says =
    subst (λ (x : ℕ). IsReadOf W H (Junk v bytes) (Bring v x bytes arrival)) (sym first)
    (inr (
      subst (λ (xs : List ℕ). IsUnnamed xs bytes) same unnamed,
      record { arrival = arrival; says = subst (λ (x : ℕ). Says (kind_of W v) x bytes arrival) first says; is = refl },
    ))

is_for_none : (W : World) (v : Who) (bytes : List ℕ) → IsUnnamed (stream_ids (kind_of W v)) bytes → IsForOne W v bytes → ⊥
is_for_none W v bytes none one =
    none one.listed.0 (record { fields = one.fields; frame = one.frame; named = slice_get_read (stream_ids (kind_of W v)) (length (stream_ids (kind_of W v))) one.listed.0 one.fields.id refl one.listed.1 (sym one.listed.2) })

pub may_unnamed : (W : World) (H : List Happened) (v : Who) (s : ℕ) (ids bytes : List ℕ) (arrival : Arrival) → ids ≡ stream_ids (kind_of W v) → IsUnnamed ids bytes
    → Says (kind_of W v) s bytes arrival → MayCome W H v s bytes arrival
may_unnamed W H v s ids bytes arrival same unnamed says = record {
  says = says;
  was_sent = λ one. absurd (is_for_none W v bytes (subst (λ (xs : List ℕ). IsUnnamed xs bytes) same unnamed) one);
}

pub may_named : (W : World) (H : List Happened) (v : Who) (s : ℕ) (bytes : List ℕ) (frames : List (List ℕ)) (arrival : Arrival) → frames ≡ sent W H → Contains frames bytes
    → Says (kind_of W v) s bytes arrival → MayCome W H v s bytes arrival
may_named W H v s bytes frames arrival same there says = record { says = says; was_sent = λ one. subst (λ (xs : List (List ℕ)). Contains xs bytes) same there }

pub not_not : (b : Bool) → not b ≡ false → IsTrue b
not_not true e = refl
not_not false e = cc
