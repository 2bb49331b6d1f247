-- The frame of each listed row is there, and it is data of the row's instant.
use Rattle.std.proofs.Common.{[], ◌++◌, ◌∙◌, ◌∷◌, ◌≡◌, length, List, None, Option, refl, Some, subst, suc, sym, zero, ℕ}
use Rattle.pdc_world.proofs.HeadlineNames.{AllByRecursion, appended, Happened, IsData, IsHistory, IsPublishedData, IsSentData, last_one, listed, listed_at, mapped, none-some, output_of, Published, published, published_as, PublishedWereSent, Publishes, row_payload, RowsAreSentData, RowView, same_Some, Seen, seen_in, sent, sent_at, slice_get, stream_in, Who, who_of, wire_of, World}
use Rattle.pdc_world.proofs.{Reading.{data_in, data_there, is_data_there, IsDataThere, TagsAreComputed, there_of_data}, Rising.{same_who}, Stable.{each}, Told.{CannotFail, holds, so_does}}

-- ---- in a history

stays_there : {X : Type 0} (xs ys : List X) (n : ℕ) (x : X) → slice_get xs n ≡ Some x → slice_get (xs ++ ys) n ≡ Some x
stays_there [] ys n x e = absurd (none-some x e)
stays_there (y ∷ xs) ys zero x e = e
stays_there (y ∷ xs) ys (suc n) x e = stays_there xs ys n x e

comes_last : {X : Type 0} (xs : List X) (x : X) → slice_get (xs ++ x ∷ []) (length xs) ≡ Some x
comes_last [] x = refl
comes_last (y ∷ xs) x = comes_last xs x

still_sent : (W : World) (H : List Happened) (h : Happened) (row : Published) → IsSentData (seen_in W H) row → IsSentData (seen_in W (h ∷ H)) row
still_sent W H h row k = record {
  bytes = k.bytes;
  there = stays_there (sent W H) (sent_at W H h) row.number k.bytes k.there;
  quality = k.quality;
  payload = k.payload;
  is_data = k.is_data;
}

sent_now : PublishedWereSent → (W : World) (H : List Happened) (v : Who) (row : RowView) → IsHistory W (Publishes v (Some row) ∷ H)
    → IsSentData (seen_in W (Publishes v (Some row) ∷ H)) (published_as v (length (sent W H)) row)
sent_now P W H v row is =
    let X : List Happened = Publishes v (Some row) ∷ H in
    let k : IsPublishedData W X (v, row) = last_one (IsPublishedData W X) (published H) (v, row) (P W X is) in
    record {
      bytes = wire_of (output_of W v) row;
      there = comes_last (sent W H) (wire_of (output_of W v) row);
      quality = row.quality;
      payload = row_payload row;
      is_data = subst (λ (w : Who). IsData (stream_in (seen_in W X) w) (wire_of (output_of W v) row) row.instant row.quality (row_payload row)) (sym (same_who v)) k.is_data;
    }

all_now : PublishedWereSent → (W : World) (H : List Happened) (h : Happened) → IsHistory W (h ∷ H) → AllByRecursion (IsSentData (seen_in W (h ∷ H))) (listed_at W H h)
all_now P W H (Publishes v (Some row)) is = (sent_now P W H v row is, tt)
all_now P W H h is = tt

pub rows_are_sent_in : PublishedWereSent → (W : World) (H : List Happened) → IsHistory W H → RowsAreSentData (seen_in W H) (listed W H)
rows_are_sent_in P W [] is = tt
rows_are_sent_in P W (h ∷ H) is =
    appended (IsSentData (seen_in W (h ∷ H))) (listed W H) (listed_at W H h)
    (mapped (IsSentData (seen_in W H)) (IsSentData (seen_in W (h ∷ H))) (listed W H) (still_sent W H h) (rows_are_sent_in P W H is.1)) (all_now P W H h is)

-- ---- of whatever is seen

of_there : TagsAreComputed → (seen : Seen) (row : Published) (bytes : List ℕ) → slice_get seen.frames row.number ≡ Some bytes → IsSentData seen row
    → IsDataThere (stream_in seen (who_of row.who)) bytes row.instant
of_there T seen row bytes e d =
    subst (λ (b : List ℕ). IsDataThere (stream_in seen (who_of row.who)) b row.instant) (same_Some d.bytes bytes (sym d.there ∙ e))
    (there_of_data T (stream_in seen (who_of row.who)) d.bytes row.instant d.quality d.payload d.is_data)

there_or_not : (seen : Seen) (row : Published) (o : Option (List ℕ)) → slice_get seen.frames row.number ≡ o → TagsAreComputed → CannotFail (IsSentData seen row) → IsSentData seen row
there_or_not seen row None e T k = absurd (k (λ d. none-some d.bytes (sym e ∙ d.there)))
there_or_not seen row (Some bytes) e T k = record {
  bytes = bytes;
  there = e;
  quality = (data_in bytes).quality;
  payload = (data_in bytes).payload;
  is_data = data_there T (stream_in seen (who_of row.who)) bytes row.instant
      (holds (is_data_there (stream_in seen (who_of row.who)) bytes row.instant) (so_does (of_there T seen row bytes e) k));
}

pub sent_data : TagsAreComputed → (seen : Seen) (rows : List Published) → CannotFail (RowsAreSentData seen rows) → RowsAreSentData seen rows
sent_data T seen rows k = each (IsSentData seen) (λ row d. there_or_not seen row (slice_get seen.frames row.number) refl T d) rows k
