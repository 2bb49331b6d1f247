-- The sections and blocks of the merger's lives come from the frames of the nodes.
use Rattle.std.proofs.Common.{[], ◌&&◌, ◌++◌, ◌∙◌, ◌∷◌, ◌≡◌, ap, arith, Bool, cond, false, inr, List, map, None, Option, refl, rules, Some, subst, suc, sym, true, zero, ℕ}
use Rattle.pdc_history.proofs.Names.{◌==◌, A, AllByRecursion, Answer, AreGenuineBlocks, Arrive, B, BlockLaws, Contains, Entry, false≢true, FrameLaws, given_in, Happened, HasConfig, HasGenuineFrames, held_layout, HeldLayout, is_candidate, IsForOne, IsGenuineBlock, IsHistory, IsLayoutOf, IsLayoutSent, IsOwn, kind_of, Layout, life_of, LifeLaws, M, MergedNode, nodes_of, none-some, OfMerger, same_Some, Says, section_in_force, SectionFields, SectionWasSent, seen_in, sent, SettingsAgree, slice_get, Stamp, Stream, stream_from, stream_ids, Who, World}
use Rattle.pdc_history.proofs.{Lists.{element, none_there}, Moments.{began}, NodeFrames.{frames_of_a, frames_of_b}, Nodes.{has_arrived, HasArrived, sent_since}}
use Rattle.pdc_life.specs.MergerReading as reading

-- ---- the node of a stream

-- the stream of the merger is what this owner publishes, whose frames are genuine
pub record IsFrom (W : World) (node : MergedNode) (v : Who) : Type 0 where
  pub stream : reading.stream_from W.m.settings node ≡ stream_from W v
  pub listed : Contains (stream_ids (kind_of W M)) node.id.value
  pub genuine : LifeLaws → FrameLaws → BlockLaws → (H : List Happened) → IsHistory W H → HasGenuineFrames (seen_in W H) v

-- node A or node B
abbrev pub FromNode : World → MergedNode → Type 0
FromNode W node = (v : Who) × IsFrom W node v

pub is_first : (W : World) → SettingsAgree W → IsFrom W W.m.settings.first A
is_first W k = record {
  stream = λ i. record { id = k.first_id i; time_base = k.first_time_base i; rate = k.rate M i };
  listed = (0, omega arith, refl);
  genuine = λ L F K H is. frames_of_a L F K W H is;
}

pub is_second : (W : World) → SettingsAgree W → IsFrom W W.m.settings.second B
is_second W k = record {
  stream = λ i. record { id = k.second_id i; time_base = k.second_time_base i; rate = (k.rate M ∙ sym (k.rate B)) i };
  listed = (1, omega arith, refl);
  genuine = λ L F K H is. frames_of_b L F K W H is;
}

pub from_node : (W : World) (s : ℕ) (node : MergedNode) → SettingsAgree W → slice_get (nodes_of W.m.settings) s ≡ Some node → FromNode W node
from_node W zero node k q = let e : W.m.settings.first ≡ node = same_Some W.m.settings.first node q in (A, subst (λ (n : MergedNode). IsFrom W n A) e (is_first W k))
from_node W (suc zero) node k q = let e : W.m.settings.second ≡ node = same_Some W.m.settings.second node q in (B, subst (λ (n : MergedNode). IsFrom W n B) e (is_second W k))
from_node W (suc (suc s)) node k q = none_there s node q

-- ---- a layout that came was sent

-- what came to the merger as a layout of a node is a layout frame of that node that was sent
came_sent : (W : World) (H : List Happened) (node : MergedNode) (v : Who) (bytes : List ℕ) (stamp : Stamp) (parts : List (ℕ × SectionFields)) → IsFrom W node v → Contains (sent W H) bytes → (k : IsLayoutOf W.m.settings node bytes stamp parts)
    → IsLayoutSent (seen_in W H) v stamp k.others
came_sent W H node v bytes stamp parts from among k = record {
  bytes = bytes;
  among = among;
  config = k.has.config;
  has = subst (λ (x : Stream). HasConfig x bytes k.has.config) from.stream k.has.base.has;
  own = k.own;
  all = k.has.sections;
  itself = subst (λ (n : ℕ). IsOwn n k.own.bytes stamp) (ap (λ (x : Stream). x.id) from.stream) k.itself;
}

config_for_one : (W : World) (node : MergedNode) (v : Who) (bytes : List ℕ) (stamp : Stamp) (parts : List (ℕ × SectionFields)) → IsFrom W node v → IsLayoutOf W.m.settings node bytes stamp parts → IsForOne W M bytes
config_for_one W node v bytes stamp parts from k = record {
  fields = k.has.base.has.fields;
  frame = k.has.base.has.of_stream.frame;
  listed = subst (Contains (stream_ids (kind_of W M))) (sym k.has.base.has.of_stream.id) from.listed;
}

-- a layout that arrived, with the owner that sent it
pub record LayoutCame (W : World) (H : List Happened) (node : MergedNode) (stamp : Stamp) (parts : List (ℕ × SectionFields)) : Type 0 where
  pub others : List SectionFields
  pub same : map (λ (part : ℕ × SectionFields). part.1) parts ≡ others
  pub sent : (v : Who) → IsFrom W node v → IsLayoutSent (seen_in W H) v stamp others

with_stamp : (W : World) (s : ℕ) (bytes : List ℕ) (parts : List (ℕ × SectionFields)) (k : Says (OfMerger W.m.settings) s bytes (Layout None parts)) → ⊥
with_stamp W s bytes parts k = k.reads

layout_came : (W : World) (H : List Happened) (node : MergedNode) (bytes : List ℕ) (stamp : Stamp) (parts : List (ℕ × SectionFields)) (later then : List Happened) → H ≡ later ++ then → (IsForOne W M bytes → Contains (sent W then) bytes)
    → IsLayoutOf W.m.settings node bytes stamp parts → LayoutCame W H node stamp parts
layout_came W H node bytes stamp parts later then stands was k = record {
  others = k.others;
  same = k.of_table.same;
  sent = λ v from. came_sent W H node v bytes stamp parts from (sent_since W H later then bytes stands (was (config_for_one W node v bytes stamp parts from k))) k;
}

-- ---- its sections

part_section : (parts : List (ℕ × SectionFields)) (others : List SectionFields) (P : SectionFields → Type 0) (c : ℕ) (s : SectionFields) → map (λ (part : ℕ × SectionFields). part.1) parts ≡ others → AllByRecursion P others → Contains parts (c, s) → P s
part_section parts others P c s q a k =
    element (λ (part : ℕ × SectionFields). P part.1) parts (c, s) (parts_all parts (subst (AllByRecursion P) (sym q) a)) k
  where
    parts_all : (parts : List (ℕ × SectionFields)) → AllByRecursion P (map (λ (part : ℕ × SectionFields). part.1) parts) → AllByRecursion (λ (part : ℕ × SectionFields). P part.1) parts
    parts_all [] a = tt
    parts_all (part ∷ parts) a = (a.0, parts_all parts a.1)

section_of_stamp : LifeLaws → FrameLaws → BlockLaws → (W : World) (H : List Happened) (stream c : ℕ) (s : SectionFields) (bytes : List ℕ) (stamp : Option Stamp) (parts : List (ℕ × SectionFields)) (later then : List Happened)
    → IsHistory W H → H ≡ later ++ then → (IsForOne W M bytes → Contains (sent W then) bytes) → Says (OfMerger W.m.settings) stream bytes (Layout stamp parts) → Contains parts (c, s) → SectionWasSent (seen_in W H) s
section_of_stamp L F K W H stream c s bytes None parts later then is stands was reads k = absurd (with_stamp W stream bytes parts reads)
section_of_stamp L F K W H stream c s bytes (Some stamp) parts later then is stands was reads k =
    let from = from_node W stream reads.sender (began W H is).settings reads.listed in
    let came : LayoutCame W H reads.sender stamp parts = layout_came W H reads.sender bytes stamp parts later then stands was reads.reads in
    let all : AllByRecursion (SectionWasSent (seen_in W H)) came.others = (from.1.genuine L F K H is).sections stamp came.others (inr (came.sent from.0 from.1)) in
    part_section parts came.others (SectionWasSent (seen_in W H)) c s came.same all k

pub merged_column : LifeLaws → FrameLaws → BlockLaws → (W : World) (H : List Happened) (c : ℕ) (s : SectionFields) → IsHistory W H → section_in_force (given_in W H M) (life_of H M) c ≡ Some s → SectionWasSent (seen_in W H) s
merged_column L F K W H c s is q =
    let come = L.come (given_in W H M) (life_of H M) c s q in
    let a : HasArrived W H M come.stream come.bytes (Layout come.stamp come.sections) come.earlier =
    has_arrived W H M come.later come.stream come.bytes (Layout come.stamp come.sections) come.answer come.earlier is come.stands in
    section_of_stamp L F K W H come.stream c s come.bytes come.stamp come.sections a.later a.then is a.stands a.was_sent a.says come.among

-- ---- the layout that is held came

record HeldCame (E : List Entry) (s : ℕ) (layout : HeldLayout) : Type 0 where
  later : List Entry
  bytes : List ℕ
  answer : Answer
  earlier : List Entry
  stands : E ≡ later ++ Arrive s bytes (Layout (Some layout.stamp) layout.sections) answer ∷ earlier

both : (a b : Bool) → (a && b) ≡ true → a ≡ true
both true b h = refl
both false b h = absurd (false≢true h)

same_number : (m n : ℕ) → (m == n) ≡ true → m ≡ n
same_number m n h = search rules

came_before : (e : Entry) (E : List Entry) (s : ℕ) (layout : HeldLayout) → HeldCame E s layout → HeldCame (e ∷ E) s layout
came_before e E s layout k = record { later = e ∷ k.later; bytes = k.bytes; answer = k.answer; earlier = k.earlier; stands = ap (λ (es : List Entry). e ∷ es) k.stands }

held_here : (r s : ℕ) (bytes : List ℕ) (stamp : Stamp) (sections : List (ℕ × SectionFields)) (answer : Answer) (E : List Entry) (layout : HeldLayout) (o : Bool) → (o ≡ true → r ≡ s)
    → (held_layout E s ≡ Some layout → HeldCame E s layout) → cond o (Some (record { stamp = stamp; sections = sections })) (held_layout E s) ≡ Some layout → HeldCame (Arrive r bytes (Layout (Some stamp) sections) answer ∷ E) s layout
held_here r s bytes stamp sections answer E layout false same k q = came_before (Arrive r bytes (Layout (Some stamp) sections) answer) E s layout (k q)
held_here r s bytes stamp sections answer E layout true same k q =
    let it : HeldLayout = record { stamp = stamp; sections = sections } in
    let one : it ≡ layout = same_Some it layout q in
    subst (λ (x : HeldLayout). HeldCame (Arrive r bytes (Layout (Some stamp) sections) answer ∷ E) s x) one
    (record { later = []; bytes = bytes; answer = answer; earlier = E; stands = ap (λ (n : ℕ). Arrive n bytes (Layout (Some stamp) sections) answer ∷ E) (same refl) })

held_came : (E : List Entry) (s : ℕ) (layout : HeldLayout) → held_layout E s ≡ Some layout → HeldCame E s layout
held_came [] s layout q = absurd (none-some layout q)
held_came (Arrive r bytes (Layout (Some stamp) sections) answer ∷ E) s layout q =
    held_here r s bytes stamp sections answer E layout ((r == s) && is_candidate answer.outcome) (λ h. same_number r s (both (r == s) (is_candidate answer.outcome) h)) (held_came E s layout) q
held_came (e ∷ E) s layout q = came_before e E s layout (held_came E s layout q)

-- the layout that is held of a stream is the one under its stamp
pub held_under : (W : World) (H : List Happened) (s : ℕ) (node : MergedNode) (layout : HeldLayout) → IsHistory W H → slice_get (nodes_of W.m.settings) s ≡ Some node → held_layout (life_of H M) s ≡ Some layout
    → LayoutCame W H node layout.stamp layout.sections
held_under W H s node layout is listed q =
    let h : HeldCame (life_of H M) s layout = held_came (life_of H M) s layout q in
    let a : HasArrived W H M s h.bytes (Layout (Some layout.stamp) layout.sections) h.earlier = has_arrived W H M h.later s h.bytes (Layout (Some layout.stamp) layout.sections) h.answer h.earlier is h.stands in
    let same : a.says.sender ≡ node = same_Some a.says.sender node (sym a.says.listed ∙ listed) in
    layout_came W H node h.bytes layout.stamp layout.sections a.later a.then a.stands a.was_sent (subst (λ (n : MergedNode). IsLayoutOf W.m.settings n h.bytes layout.stamp layout.sections) same a.says.reads)

-- ---- its blocks

-- the block at a place
pub genuine_place : (W : World) (H : List Happened) (i place : ℕ) (sections : List SectionFields) (blocks : List (List ℕ)) (s : SectionFields) (words : List ℕ) → AreGenuineBlocks (seen_in W H) i sections blocks → slice_get sections place ≡ Some s
    → slice_get blocks place ≡ Some words → IsGenuineBlock (seen_in W H) i s words
genuine_place W H i zero (t ∷ sections) (other ∷ blocks) s words k p q =
    subst (λ (x : SectionFields). IsGenuineBlock (seen_in W H) i x words) (same_Some t s p) (subst (IsGenuineBlock (seen_in W H) i t) (same_Some other words q) k.0)
genuine_place W H i (suc place) (t ∷ sections) (other ∷ blocks) s words k p q = genuine_place W H i place sections blocks s words k.1 p q
genuine_place W H i place [] blocks s words k p q = none_there place s p
genuine_place W H i place (t ∷ sections) [] s words k p q = absurd k
