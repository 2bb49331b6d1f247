-- Each step keeps the rule of the pipe, and what was handed on is a prefix of what was put.
use Rattle.std.proofs.Common.{◌≡◌, ◌≢◌, ℕ, zero, suc, Bool, true, false, true≢false, List, [], ◌∷◌, ◌++◌, length, set, sym, refl, ap, ◌∙◌, subst, ⊎_elim, append_assoc, append-nil}
use mathlib.Core.Option.{some, some-ne-none}
use lib.ListN.{get_elem?}
use Rattle.crossbeam_channel.specs.Fifo.{Pushes, Pops, Forks, Merges, Learns}
use Rattle.atomic_table.proofs.Lists.{at_set, at_snoc}
use Rattle.pdc_pipe.specs.declared.message.Message.{Message}
use Rattle.pdc_publisher.specs.PublishedRow.{frame_in}
use Rattle.pdc_publisher.specs.declared.published_row.PublishedRow.{PublishedRow}
use Rattle.pdc_pipe.specs.declared.message.LayoutFrame.{LayoutFrame}
use Rattle.pdc_pipe.specs.declared.message.Message.TheVariants.{Data, Layout, End}
use Rattle.pdc_pipe.specs.declared.pipe.Log.{Log}
use Rattle.pdc_pipe.specs.Pipe.{log, Fits, Piped}
use Rattle.pdc_pipe.specs.declared.senders.Ended.{Ended}
use Rattle.pdc_pipe.specs.declared.senders.Ended.TheVariants.{AtEndMark, SinkFault, AlignerGone}
use Rattle.pdc_pipe.specs.HandedOn.{EndsThere, HasHandedOn}
use Rattle.pdc_pipe.specs.Sequence.{IsClosedBy, has_end, is_end, bytes_of}

at_end : (l : List Log) (a b : Log) (j : ℕ) → get_elem? l j ≢ some b → get_elem? (l ++ a ∷ []) j ≡ some b → j ≡ length l
at_end [] a b zero n e = refl
at_end [] a b (suc j) n e = absurd (some-ne-none b (sym e))
at_end (x ∷ xs) a b zero n e = absurd (n e)
at_end (x ∷ xs) a b (suc j) n e = ap suc (at_end xs a b j n e)

abbrev All : (ℕ → Log → Type 0) → List Log → Type 0
All F views = (port : ℕ) (v : Log) → get_elem? views port ≡ some v → F port v

all_set : (F : ℕ → Log → Type 0) (views : List Log) (port : ℕ) (w : Log) → F port w → ((j : ℕ) (u : Log) → j ≢ port → get_elem? views j ≡ some u → F j u) → All F (set views port w)
all_set F views port w mine others j u e = ⊎_elim (λ (x : (j ≡ port) × (w ≡ u)). subst (λ (y : ℕ × Log). F y.0 y.1) (λ i. (sym x.0 i, x.1 i)) mine)
    (λ (x : (j ≢ port) × (get_elem? views j ≡ some u)). others j u x.0 x.1) (at_set views port j w u e)

no_end-more : (ms : List Message) (x : Message) → is_end x ≡ false → has_end ms ≡ false → has_end (ms ++ x ∷ []) ≡ false
no_end-more [] (Data _) i e = refl
no_end-more [] (Layout _) i e = refl
no_end-more [] End i e = i
no_end-more (Data _ ∷ ms) x i e = no_end-more ms x i e
no_end-more (Layout _ ∷ ms) x i e = no_end-more ms x i e
no_end-more (End ∷ ms) x i e = e

pub begins : Piped [] (log true true false [] [] ∷ [])
begins = (0, 0, false, [], [], refl, refl, all_set (Fits 0 0 false [] []) (log true true false [] [] ∷ []) 0 (log true true false [] []) ((λ _. (refl, refl, refl)), λ _. (refl, refl)) (λ j u other e. absurd (other (at_end [] _ u j (λ x. some-ne-none u (sym x)) e))))

pub puts : (n port : ℕ) (v : Log) (x : Message) → is_end x ≡ false → v.puts ≡ true → v.closed ≡ false → Pushes Piped n port v x (λ w. w ≡ log v.puts v.takes v.closed (v.put ++ x ∷ []) v.taken)
puts n port v x goes may unshut items views _ h at = let w : Log = log v.puts v.takes v.closed (v.put ++ x ∷ []) v.taken in let mine = h.7 port v at in let put = h.3 ++ x ∷ [] in
    let shut : h.2 ≡ false = sym (mine.0 may).2 ∙ unshut in (
      w,
      (
        h.0,
        h.1,
        h.2,
        put,
        h.4,
        ap (λ l. l ++ x ∷ []) h.5 ∙ append_assoc h.4 items (x ∷ []),
        subst (λ b. IsClosedBy b put) (sym shut) (no_end-more h.3 x goes (subst (λ b. IsClosedBy b h.3) shut h.6)),
        all_set (Fits h.0 h.1 h.2 put h.4) views port w ((λ _. ((mine.0 may).0, ap (λ l. l ++ x ∷ []) (mine.0 may).1, (mine.0 may).2)), mine.1)
            (λ j u other e. ((λ p. absurd (other (((h.7 j u e).0 p).0 ∙ sym (mine.0 may).0))), (h.7 j u e).1)),
      ),
      refl,
    )

pub closes : (n port : ℕ) (v : Log) → v.puts ≡ true → v.closed ≡ false → Pushes Piped n port v End (λ w. w ≡ log v.puts v.takes true (v.put ++ End ∷ []) v.taken)
closes n port v may unshut items views _ h at = let w : Log = log v.puts v.takes true (v.put ++ End ∷ []) v.taken in let mine = h.7 port v at in let put = h.3 ++ End ∷ [] in
    let shut : h.2 ≡ false = sym (mine.0 may).2 ∙ unshut in (
      w,
      (
        h.0,
        h.1,
        true,
        put,
        h.4,
        ap (λ l. l ++ End ∷ []) h.5 ∙ append_assoc h.4 items (End ∷ []),
        (h.3, refl, subst (λ b. IsClosedBy b h.3) shut h.6),
        all_set (Fits h.0 h.1 true put h.4) views port w ((λ _. ((mine.0 may).0, ap (λ l. l ++ End ∷ []) (mine.0 may).1, refl)), mine.1)
            (λ j u other e. ((λ p. absurd (other (((h.7 j u e).0 p).0 ∙ sym (mine.0 may).0))), (h.7 j u e).1)),
      ),
      refl,
    )

pub takes : (port : ℕ) (v : Log) → v.takes ≡ true → Pops Piped port v (λ x w. w ≡ log v.puts v.takes v.closed v.put (v.taken ++ x ∷ []))
takes port v may x items views h at = let w : Log = log v.puts v.takes v.closed v.put (v.taken ++ x ∷ []) in let mine = h.7 port v at in let taken = h.4 ++ x ∷ [] in (
  w,
  (
    h.0,
    h.1,
    h.2,
    h.3,
    taken,
    h.5 ∙ sym (append_assoc h.4 (x ∷ []) items),
    h.6,
    all_set (Fits h.0 h.1 h.2 h.3 taken) views port w (mine.0, λ _. ((mine.1 may).0, ap (λ l. l ++ x ∷ []) (mine.1 may).1))
        (λ j u other e. ((h.7 j u e).0, λ p. absurd (other (((h.7 j u e).1 p).0 ∙ sym (mine.1 may).0)))),
  ),
  refl,
)

pub forks : (port : ℕ) (v : Log) → v.puts ≡ true → v.takes ≡ true → Forks Piped port v (log true false v.closed v.put []) (log false true false [] v.taken)
forks port v a b items views h at = let l : Log = log true false v.closed v.put [] in let r : Log = log false true false [] v.taken in let mine = h.7 port v at in let vs : List Log = set views port l in
    let Old : ℕ → Log → Type 0 = λ j u. (u.puts ≡ true → (j ≡ h.0) × (u.put ≡ h.3) × (u.closed ≡ h.2)) × (u.takes ≢ true) in
    let old : All Old vs = all_set Old views port l ((λ _. mine.0 a), λ p. true≢false (sym p)) (λ j u other e. ((h.7 j u e).0, λ p. other (((h.7 j u e).1 p).0 ∙ sym (mine.1 b).0))) in (
      h.0,
      length vs,
      h.2,
      h.3,
      h.4,
      h.5,
      h.6,
      λ j u e. ⊎_elim (λ x. ((old j u x).0, λ p. absurd ((old j u x).1 p)))
          (λ (is : r ≡ u). ((λ p. absurd (true≢false (sym (ap (λ (y : Log). y.puts) is ∙ p)))), λ p. (at_end vs r u j (λ x. (old j u x).1 p) e, ap (λ (y : Log). y.taken) (sym is) ∙ (mine.1 b).1))) (at_snoc vs r u j e),
    )

pub merges : (port : ℕ) (v : Log) (other : ℕ) (u : Log) → v.puts ≡ true → u.takes ≡ true → Merges Piped port v other u (log true true v.closed v.put u.taken) (log false false false [] [])
merges port v other u a b items views h at two at' = let both : Log = log true true v.closed v.put u.taken in let mine = h.7 port v at in let vs : List Log = set views port both in
    let was : get_elem? views other ≡ some u = ⊎_elim (λ x. absurd (two x.0)) (λ x. x.1) (at_set views port other both u at') in let theirs = (h.7 other u was).1 b in
    let Now : ℕ → Log → Type 0 = λ j y. j ≢ other → Fits h.0 port h.2 h.3 h.4 j y in
    let now : All Now vs = all_set Now views port both (λ _. ((λ _. mine.0 a), λ _. (refl, theirs.1))) (λ j y _ e apart. ((h.7 j y e).0, λ p. absurd (apart (((h.7 j y e).1 p).0 ∙ sym theirs.0)))) in
    (h.0, port, h.2, h.3, h.4, h.5, h.6, all_set (Fits h.0 port h.2 h.3 h.4) vs other (log false false false [] []) ((λ p. absurd (true≢false (sym p))), λ p. absurd (true≢false (sym p))) (λ j y apart e. now j y e apart))

pub totals : (port : ℕ) (v : Log) → v.puts ≡ true → v.takes ≡ true → Learns Piped port v (λ items. (v.put ≡ v.taken ++ items) × IsClosedBy v.closed v.put)
totals port v a b items views h at = let mine = h.7 port v at in let p = mine.0 a in (
  p.1 ∙ h.5 ∙ ap (λ l. l ++ items) (sym (mine.1 b).1),
  subst (λ (y : Bool × List Message). IsClosedBy y.0 y.1) (λ i. (sym p.2 i, sym p.1 i)) h.6,
)

pub bytes_of-append : (xs ys : List Message) → bytes_of (xs ++ ys) ≡ bytes_of xs ++ bytes_of ys
bytes_of-append [] ys = refl
bytes_of-append (Data p ∷ ms) ys = ap (λ l. frame_in p ∷ l) (bytes_of-append ms ys)
bytes_of-append (Layout b ∷ ms) ys = ap (λ l. b.bytes.items ∷ l) (bytes_of-append ms ys)
bytes_of-append (End ∷ ms) ys = bytes_of-append ms ys

-- what was put, with what was given and what is left of it
pub put_is_given : (put taken items : List Message) (given rest : List (List ℕ)) → put ≡ taken ++ items → bytes_of taken ≡ given ++ rest → bytes_of put ≡ given ++ (rest ++ bytes_of items)
put_is_given put taken items given rest e t = ap bytes_of e ∙ (bytes_of-append taken items ∙ (ap (λ l. l ++ bytes_of items) t ∙ append_assoc given rest (bytes_of items)))

pub took_data : (taken after : List Message) (p : PublishedRow) → after ≡ taken ++ Data p ∷ [] → bytes_of after ≡ bytes_of taken ++ frame_in p ∷ []
took_data taken after p e = ap bytes_of e ∙ bytes_of-append taken (Data p ∷ [])

pub took_layout : (taken after : List Message) (b : LayoutFrame) → after ≡ taken ++ Layout b ∷ [] → bytes_of after ≡ bytes_of taken ++ b.bytes.items ∷ []
took_layout taken after b e = ap bytes_of e ∙ bytes_of-append taken (Layout b ∷ [])

pub took_end : (taken after : List Message) → after ≡ taken ++ End ∷ [] → bytes_of after ≡ bytes_of taken
took_end taken after e = ap bytes_of e ∙ (bytes_of-append taken (End ∷ []) ∙ append-nil (bytes_of taken))

-- what is drained comes after what was handed on
pub drained : (taken after more : List Message) (given rest : List (List ℕ)) → after ≡ taken ++ more → bytes_of taken ≡ given ++ rest → bytes_of after ≡ given ++ (rest ++ bytes_of more)
drained taken after more given rest e t = put_is_given after taken more given rest e t

abbrev head_of : Message → List Message → Message
head_of d [] = d
head_of d (x ∷ xs) = x

abbrev tail_of : List Message → List Message
tail_of [] = []
tail_of (x ∷ xs) = xs

has_end-there : (body items : List Message) → has_end (body ++ End ∷ items) ≡ true
has_end-there [] items = refl
has_end-there (Data _ ∷ ms) items = has_end-there ms items
has_end-there (Layout _ ∷ ms) items = has_end-there ms items
has_end-there (End ∷ ms) items = refl

not_end : (m : Message) (ms : List Message) → End ≡ m → has_end (m ∷ ms) ≡ false → ⊥
not_end m ms e h = true≢false (subst (λ x. has_end (x ∷ ms) ≡ false) (sym e) h)

abbrev is_empty_list : List Message → Bool
is_empty_list [] = true
is_empty_list (x ∷ xs) = false

abbrev is_at_end : Ended → Bool
is_at_end AtEndMark = true
is_at_end SinkFault = false
is_at_end AlignerGone = false

is_not_end : (e : Ended) → is_at_end e ≡ false → e ≡ AtEndMark → ⊥
is_not_end e other is = true≢false (sym (ap is_at_end is) ∙ other)

end_of_tail : (m : Message) (ms : List Message) → has_end (m ∷ ms) ≡ false → has_end ms ≡ false
end_of_tail (Data _) ms h = h
end_of_tail (Layout _) ms h = h
end_of_tail End ms h = absurd (true≢false h)

-- behind the end mark comes nothing
behind_end : (body items whole : List Message) → body ++ End ∷ items ≡ whole ++ End ∷ [] → has_end whole ≡ false → items ≡ []
behind_end [] items [] e h = ap tail_of e
behind_end [] items (m ∷ ms) e h = absurd (not_end m ms (ap (head_of End) e) h)
behind_end (x ∷ []) items [] e h = absurd (true≢false (sym (ap is_empty_list (ap tail_of e))))
behind_end (x ∷ (y ∷ xs)) items [] e h = absurd (true≢false (sym (ap is_empty_list (ap tail_of e))))
behind_end (x ∷ xs) items (m ∷ ms) e h = behind_end xs items ms (ap tail_of e) (end_of_tail m ms h)

-- Where the end mark was taken, all that was put was.
pub all_taken : (closed : Bool) (put taken items : List Message) → put ≡ taken ++ items → IsClosedBy closed put → EndsThere taken → items ≡ []
all_taken true put taken items e shut ends =
    behind_end ends.0 items shut.0 (sym (append_assoc ends.0 (End ∷ []) items) ∙ (ap (λ l. l ++ items) (sym ends.1) ∙ (sym e ∙ shut.1))) shut.2
all_taken false put taken items e unshut ends =
    absurd (true≢false (sym (ap has_end (e ∙ (ap (λ l. l ++ items) ends.1 ∙ append_assoc ends.0 (End ∷ []) items)) ∙ has_end-there ends.0 items) ∙ unshut))

-- what was handed on of all that was taken, where the sender ended at the end mark and where it did not
pub handed_on : {Took : List (List ℕ) → Type 0} (taken : List Message) (ended : Ended) → ((given : List (List ℕ)) × (rest : List (List ℕ)) × Took given × (bytes_of taken ≡ given ++ rest))
    → (ended ≡ AtEndMark → Took (bytes_of taken) × EndsThere taken) → HasHandedOn Took taken ended
handed_on taken AtEndMark t whole = record { given = bytes_of taken; rest = []; took = (whole refl).0; first = sym (append-nil (bytes_of taken)); whole = λ _. (refl, (whole refl).1) }
handed_on taken SinkFault t whole = record { given = t.0; rest = t.1; took = t.2; first = t.3; whole = λ e. absurd (is_not_end SinkFault refl e) }
handed_on taken AlignerGone t whole = record { given = t.0; rest = t.1; took = t.2; first = t.3; whole = λ e. absurd (is_not_end AlignerGone refl e) }

-- What the sink took of what was taken, it took of what was put.
pub settled : {Took : List (List ℕ) → Type 0} (closed : Bool) (put taken items : List Message) (ended : Ended) → put ≡ taken ++ items → IsClosedBy closed put → HasHandedOn Took taken ended → HasHandedOn Took put ended
settled closed put taken items ended e shut h = record {
  given = h.given;
  rest = h.rest ++ bytes_of items;
  took = h.took;
  first = put_is_given put taken items h.given h.rest e h.first;
  whole = λ at. let w = h.whole at in let none : items ≡ [] = all_taken closed put taken items e shut w.1 in (
    ap (λ l. l ++ bytes_of items) w.0 ∙ ap bytes_of none,
    (w.1.0, e ∙ (ap (λ l. taken ++ l) none ∙ (append-nil taken ∙ w.1.1))),
  );
}
