-- What is taken came in time.
use Rattle.pdc_life.proofs.Names.{[], ◌*◌, ◌+◌, ◌<◌, ◌∙◌, ◌∷◌, ◌≡◌, ◌≤◌, again_answer, Ahead, Answer, answer_in_time, ap, AreBelow, arith, bare, Bool, cell_of, cell_under, CellView, closed, cond, cond-false, cond_both, CoreKind, Data, data_answer, drop, Entry, eqb, false, false≢true, first_cause, Given, greatest, held_instants, held_layout, HeldLayout, is_near, is_other, is_taken, last_of, Late, length, List, list_all, list_any, ltb, merged_cells, merged_data_answer, nat_eq, nat_le, nat_lt, None, not, now_of, OfMerger, OfNode, Option, OtherStamp, Outcome, outcome_in_time, OutOfWindow, own_words, payload_len, pointwise, refl, Refused, RisingLaws, row_instants, rules, rules_of, section_in_force, SectionFields, Some, stamp_words, sym, Take, take_of, Taken, true, word_count_of, words_in, WrongLength, ℕ}
use Rattle.pdc_life.specs.InTime.{ClosedStayClosed, ComesInTime, TakenIsInTime, Takes, TakesInTime}
use Rattle.pdc_life.specs.declared.outcome.Refusal.{Refusal}
use Rattle.pdc_life.proofs.LifeLaws.{last_is}
use Rattle.pdc_life.proofs.Lists.{is_same_text, same_length, text_is_same}

none_taken : (t : Option Take) (conflicts : Bool) → again_answer t conflicts ≡ Taken → t ≡ None
none_taken None conflicts h = refl
none_taken (Some t) true h = absurd (false≢true (ap is_taken h))
none_taken (Some t) false h = absurd (false≢true (ap is_taken h))

in_time : (g : Given) (E : List Entry) (s i : ℕ) (cells : List (ℕ × CellView)) → outcome_in_time g E s i cells ≡ Taken → ComesInTime g E s i
in_time g E s i cells h =
    let other : Outcome = again_answer (take_of g E s i) (list_any (λ (part : ℕ × CellView). is_other (cell_of E s part.0 i) part.1) cells) in
    let far : Bool = not (list_all (is_near g.window i) (held_instants g E)) in
    let Goal : Outcome → Type 0 = λ (o : Outcome). o ≡ Taken → ComesInTime g E s i in
    cond_both (nat_le i (last_of g E)) (Refused Late) (first_cause false (nat_lt (now_of g E + g.ahead) i) far other) Goal
    (λ a taken. absurd (false≢true (ap is_taken taken)))
    (λ a. cond_both (nat_lt (now_of g E + g.ahead) i) (Refused Ahead) (cond far (Refused OutOfWindow) other) Goal
    (λ b taken. absurd (false≢true (ap is_taken taken)))
    (λ b. cond_both far (Refused OutOfWindow) other Goal (λ c taken. absurd (false≢true (ap is_taken taken)))
    (λ c taken. record {
      later = search rules;
      not_ahead = search rules;
      near = search rules;
      first = none_taken (take_of g E s i) _ taken;
    }))) h

is_first : (late ahead far : Bool) (t : Option Take) (conflicts : Bool) → late ≡ false → ahead ≡ false → far ≡ true → t ≡ None → first_cause late ahead (not far) (again_answer t conflicts) ≡ Taken
is_first late ahead far t conflicts a b c d = rw (a, b, c, d) refl

taken_in_time : (g : Given) (E : List Entry) (s i : ℕ) (cells : List (ℕ × CellView)) → ComesInTime g E s i → outcome_in_time g E s i cells ≡ Taken
taken_in_time g E s i cells t =
    let late : nat_le i (last_of g E) ≡ false = search (rules, t.later) in
    let ahead : nat_lt (now_of g E + g.ahead) i ≡ false = search (rules, t.not_ahead) in
    is_first (nat_le i (last_of g E)) (nat_lt (now_of g E + g.ahead) i) (list_all (is_near g.window i) (held_instants g E)) (take_of g E s i)
    (list_any (λ (part : ℕ × CellView). is_other (cell_of E s part.0 i) part.1) cells) late ahead t.near t.first

pub taken_is_in_time : TakenIsInTime
taken_is_in_time g E s i cells = (in_time g E s i cells, taken_in_time g E s i cells)

-- ---- what data gives that is taken

pub taken_cells : (g : Given) (E : List Entry) (s i : ℕ) (cells : List (ℕ × CellView)) (answer : Answer) → answer ≡ answer_in_time g E s i cells
    → answer.outcome ≡ Taken → answer.cells ≡ cells
taken_cells g E s i cells answer is h =
    ap (λ (a : Answer). a.cells) is ∙ ap (λ (o : Outcome). cond (is_taken o) cells []) (sym (ap (λ (a : Answer). a.outcome) is) ∙ h)

put_on : (b : Bool) (r : Refusal) (rest : Answer) → b ≡ false → rest.outcome ≡ Taken → (cond b (bare (Refused r)) rest).outcome ≡ Taken
put_on b r rest e h = ap (λ (a : Answer). a.outcome) (cond-false b (bare (Refused r)) rest e) ∙ h

-- ---- a node

abbrev pub node_cells : (p quality : ℕ) (payload : List ℕ) → SectionFields → List (ℕ × CellView)
node_cells p quality payload s = (p, cell_under s quality (words_in payload)) ∷ []

-- data that is taken has the length of the section in force, and gives its words under it
pub record NodeGives (g : Given) (E : List Entry) (p i quality : ℕ) (payload : List ℕ) (answer : Answer) : Type 0 where
  pub section : SectionFields
  pub in_force : section_in_force g E p ≡ Some section
  pub size : length payload ≡ 2 * word_count_of section.shape
  pub is : answer ≡ answer_in_time g E p i (node_cells p quality payload section)

pub node_gives : (g : Given) (E : List Entry) (p i quality : ℕ) (payload : List ℕ) (f : Option SectionFields) → section_in_force g E p ≡ f
    → (data_answer g E p i quality payload f).outcome ≡ Taken
    → NodeGives g E p i quality payload (data_answer g E p i quality payload f)
node_gives g E p i quality payload None k h = absurd (false≢true (ap is_taken h))
node_gives g E p i quality payload (Some s) k h =
    cond_both (not (eqb (length payload) (2 * word_count_of s.shape))) (bare (Refused WrongLength)) (answer_in_time g E p i (node_cells p quality payload s))
    (λ (a : Answer). a.outcome ≡ Taken → NodeGives g E p i quality payload a) (λ e taken. absurd (false≢true (ap is_taken taken)))
    (λ e taken. record { section = s; in_force = k; size = same_length (length payload) (2 * word_count_of s.shape) e; is = refl }) h

-- ---- the merger

-- the words of the sections, behind those of the own block
abbrev pub node_words : List ℕ → List ℕ
node_words payload = drop 7 (words_in payload)

-- data that is taken bears the stamp of the held layout, has its length, and gives the cells that are cut under it
pub record MergerGives (g : Given) (E : List Entry) (s i quality : ℕ) (payload : List ℕ) (answer : Answer) : Type 0 where
  pub layout : HeldLayout
  pub held : held_layout E s ≡ Some layout
  pub stamp : own_words payload ≡ stamp_words layout.stamp.start layout.stamp.change
  pub size : length payload ≡ payload_len layout.sections
  pub is : answer ≡ answer_in_time g E s i (merged_cells g E quality layout.sections (node_words payload))

pub merger_gives : (g : Given) (E : List Entry) (s i quality : ℕ) (payload : List ℕ) (held : Option HeldLayout) → held_layout E s ≡ held
    → (merged_data_answer g E s i quality payload held).outcome ≡ Taken
    → MergerGives g E s i quality payload (merged_data_answer g E s i quality payload held)
merger_gives g E s i quality payload None k h = absurd (false≢true (ap is_taken h))
merger_gives g E s i quality payload (Some layout) k h =
    let stamp : List ℕ = stamp_words layout.stamp.start layout.stamp.change in
    let last : Answer = answer_in_time g E s i (merged_cells g E quality layout.sections (node_words payload)) in
    let sized : Answer = cond (not (eqb (length payload) (payload_len layout.sections))) (bare (Refused WrongLength)) last in
    let stamped : Answer = cond (not (pointwise nat_eq (own_words payload) stamp)) (bare (Refused OtherStamp)) sized in
    let Goal : Answer → Type 0 = λ (a : Answer). a.outcome ≡ Taken → MergerGives g E s i quality payload a in
    cond_both (ltb (length payload) 14) (bare (Refused WrongLength)) stamped Goal (λ a taken. absurd (false≢true (ap is_taken taken)))
    (λ a. cond_both (not (pointwise nat_eq (own_words payload) stamp)) (bare (Refused OtherStamp)) sized Goal
    (λ b taken. absurd (false≢true (ap is_taken taken)))
    (λ b. cond_both (not (eqb (length payload) (payload_len layout.sections))) (bare (Refused WrongLength)) last Goal
    (λ c taken. absurd (false≢true (ap is_taken taken)))
    (λ c taken. record {
      layout = layout;
      held = k;
      stamp = is_same_text (own_words payload) stamp (pointwise nat_eq (own_words payload) stamp) refl b;
      size = same_length (length payload) (payload_len layout.sections) c;
      is = refl;
    }))) h

-- ---- what is taken, and what is not

takes_so : (kind : CoreKind) (g : Given) (E : List Entry) (s i quality : ℕ) (payload : List ℕ) → (rules_of kind g E s (Data i quality payload)).outcome ≡ Taken
    → Takes kind g E s i payload
takes_so (OfNode settings) g E p i quality payload h =
    let k = node_gives g E p i quality payload (section_in_force g E p) refl h in
    record {
      of_stream = record { section = k.section; in_force = k.in_force; size = k.size };
      in_time = in_time g E p i (node_cells p quality payload k.section) (sym (ap (λ (a : Answer). a.outcome) k.is) ∙ h);
    }
takes_so (OfMerger settings) g E s i quality payload h =
    let k = merger_gives g E s i quality payload (held_layout E s) refl h in
    let cells : List (ℕ × CellView) = merged_cells g E quality k.layout.sections (node_words payload) in
    record {
      of_stream = record { layout = k.layout; held = k.held; stamp = k.stamp; size = k.size };
      in_time = in_time g E s i cells (sym (ap (λ (a : Answer). a.outcome) k.is) ∙ h);
    }

taken_so : (kind : CoreKind) (g : Given) (E : List Entry) (s i quality : ℕ) (payload : List ℕ) → Takes kind g E s i payload
    → (rules_of kind g E s (Data i quality payload)).outcome ≡ Taken
taken_so (OfNode settings) g E p i quality payload t =
    let section : SectionFields = t.of_stream.section in
    let cells : List (ℕ × CellView) = node_cells p quality payload section in
    ap (λ (f : Option SectionFields). (data_answer g E p i quality payload f).outcome) t.of_stream.in_force
    ∙ put_on (not (eqb (length payload) (2 * word_count_of section.shape))) WrongLength (answer_in_time g E p i cells)
    (search (rules, t.of_stream.size)) (taken_in_time g E p i cells t.in_time)
taken_so (OfMerger settings) g E s i quality payload t =
    let layout : HeldLayout = t.of_stream.layout in
    let cells : List (ℕ × CellView) = merged_cells g E quality layout.sections (node_words payload) in
    let stamp : List ℕ = stamp_words layout.stamp.start layout.stamp.change in
    let last : Answer = answer_in_time g E s i cells in
    let sized : Answer = cond (not (eqb (length payload) (payload_len layout.sections))) (bare (Refused WrongLength)) last in
    let stamped : Answer = cond (not (pointwise nat_eq (own_words payload) stamp)) (bare (Refused OtherStamp)) sized in
    ap (λ (held : Option HeldLayout). (merged_data_answer g E s i quality payload held).outcome) t.of_stream.held
    ∙ put_on (ltb (length payload) 14) WrongLength stamped (search (rules, t.of_stream.size))
    (put_on (not (pointwise nat_eq (own_words payload) stamp)) OtherStamp sized
    (text_is_same (own_words payload) stamp (pointwise nat_eq (own_words payload) stamp) refl t.of_stream.stamp)
    (put_on (not (eqb (length payload) (payload_len layout.sections))) WrongLength last (search (rules, t.of_stream.size))
    (taken_in_time g E s i cells t.in_time)))

pub takes_in_time : TakesInTime
takes_in_time kind g E s i quality payload = (takes_so kind g E s i quality payload, taken_so kind g E s i quality payload)

-- ---- what closed stays closed

module _ (R : RisingLaws) where
  above_all : (g : Given) (E : List Entry) (s i : ℕ) → ComesInTime g E s i → (g.floor < i) × AreBelow i (row_instants (closed E))
  above_all g E s i t =
      let e : last_of g E ≡ greatest g.floor (row_instants (closed E)) = last_is R g E in
      let k : g.floor ≤ greatest g.floor (row_instants (closed E)) = R.greatest_ge g.floor (row_instants (closed E)) in
      let l : greatest g.floor (row_instants (closed E)) < i = omega (arith, t.later, e) in
      (omega (arith, k, l), R.below_higher (greatest g.floor (row_instants (closed E)) + 1) i (row_instants (closed E)) (omega (arith, l)) (R.below_greatest g.floor (row_instants (closed E))))

  pub closed_stay_closed : ClosedStayClosed
  closed_stay_closed kind g E s i quality payload h = above_all g E s i (takes_so kind g E s i quality payload h).in_time
