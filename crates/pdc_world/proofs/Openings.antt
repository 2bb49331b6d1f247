-- A world whose first lives begin.
use Rattle.std.proofs.Common.{[], ◌&&◌, ◌<◌, ◌^◌, ◌∙◌, ◌≡◌, ◌⊎◌, ap, arith, Bool, false, inl, inr, nat_lt, refl, subst, sym, true}
use Rattle.pdc_world.proofs.Names.{A, and_parts, are_left, B, both_ways, do_agree, first_mark, given_by, given_of, HasCome, HasNoStart, Holds, Leads, LedgerView, ltb-false, ltb-true, M, MayBegin, MergerSettings, OfMerger, OfNode, Seat, seat_of, Settings, SettingsAgree, Stored, Who, with_next_start, World, world_of, WorldView}
use Rattle.pdc_world.proofs.Agreements.{agree_from, agree_to}
use Rattle.pdc_merge.specs.Merger as merger
use Rattle.pdc_node.specs.Node as node

come_first : (W : World) (v : Who) (seat : Seat) → seat.mark ≡ first_mark W v → seat.stands (given_by W v seat.mark) [] → HasCome W [] v seat
come_first W v seat same stands = record { stands = subst (λ (s : Stored). seat.stands (given_by W v s) []) same stands; mark = same }

-- Three starts are left.
pub record AreLeft (of_a of_b of_m : Stored) : Type 0 where
  pub a : of_a.start < 4294967295
  pub b : of_b.start < 4294967295
  pub m : of_m.start < 4294967295

pub left_from : (of_a of_b of_m : Stored) → are_left of_a of_b of_m ≡ true → AreLeft of_a of_b of_m
left_from of_a of_b of_m e =
    let last = and_parts (nat_lt of_a.start 4294967295 && nat_lt of_b.start 4294967295) (nat_lt of_m.start 4294967295) e in
    let first = and_parts (nat_lt of_a.start 4294967295) (nat_lt of_b.start 4294967295) last.0 in
    record { a = ltb-true of_a.start 4294967295 first.0; b = ltb-true of_b.start 4294967295 first.1; m = ltb-true of_m.start 4294967295 last.1 }

starts_left : (a b : Settings) (m : MergerSettings) (leads : Leads) (of_a of_b of_m : Stored) → AreLeft of_a of_b of_m → (who : Who)
    → (first_mark (world_of a b m leads of_a of_b of_m) who).start < 2 ^ 32
starts_left a b m leads of_a of_b of_m left A = omega (arith, left.a)
starts_left a b m leads of_a of_b of_m left B = omega (arith, left.b)
starts_left a b m leads of_a of_b of_m left M = omega (arith, left.m)

pub may_begin : (a b : Settings) (m : MergerSettings) (leads : Leads) (of_a of_b of_m : Stored) → do_agree a b m ≡ true → are_left of_a of_b of_m ≡ true
    → MayBegin (world_of a b m leads of_a of_b of_m)
may_begin a b m leads of_a of_b of_m agree left = record {
  settings = agree_from (world_of a b m leads of_a of_b of_m) agree;
  starts = starts_left a b m leads of_a of_b of_m (left_from of_a of_b of_m left);
}

-- ---- why a world does not begin

pub not_agreed : (a b : Settings) (m : MergerSettings) (leads : Leads) (of_a of_b of_m : Stored) (test : Bool) → test ≡ do_agree a b m → test ≡ false
    → SettingsAgree (world_of a b m leads of_a of_b of_m) → ⊥
not_agreed a b m leads of_a of_b of_m test is e agree = both_ways test e (is ∙ agree_to (world_of a b m leads of_a of_b of_m) agree)

-- the first of three tests that fails
one_fails : (p q r : Bool) → (p && q && r) ≡ false → (p ≡ false) ⊎ ((q ≡ false) ⊎ (r ≡ false))
one_fails false q r e = inl refl
one_fails true false r e = inr (inl refl)
one_fails true true r e = inr (inr e)

pub no_start : (a b : Settings) (m : MergerSettings) (leads : Leads) (of_a of_b of_m : Stored) (test : Bool) → test ≡ are_left of_a of_b of_m → test ≡ false
    → HasNoStart (world_of a b m leads of_a of_b of_m)
no_start a b m leads of_a of_b of_m test is e =
    elim (one_fails (nat_lt of_a.start 4294967295) (nat_lt of_b.start 4294967295) (nat_lt of_m.start 4294967295) (sym is ∙ e)) [
      | inl past ↦ record { who = A; past = omega (arith, ltb-false of_a.start 4294967295 past) }
      | inr (inl past) ↦ record { who = B; past = omega (arith, ltb-false of_b.start 4294967295 past) }
      | inr (inr past) ↦ record { who = M; past = omega (arith, ltb-false of_m.start 4294967295 past) }
    ]

-- ---- a world that begins

pub begun_holds : (a b : Settings) (m : MergerSettings) (leads : Leads) (of_a of_b of_m : Stored) (v : WorldView) → do_agree a b m ≡ true → are_left of_a of_b of_m ≡ true
    → v.a.mark ≡ with_next_start of_a → node.StandsFor (given_of (OfNode a) v.a.mark.start v.a.mark.floor v.a.mark.counts 0) [] v.a.core → v.a.core.settings ≡ a → v.a.lead ≡ leads.a
    → v.b.mark ≡ with_next_start of_b → node.StandsFor (given_of (OfNode b) v.b.mark.start v.b.mark.floor v.b.mark.counts 0) [] v.b.core → v.b.core.settings ≡ b → v.b.lead ≡ leads.b
    → v.m.mark ≡ with_next_start of_m → merger.StandsFor (given_of (OfMerger m) v.m.mark.start v.m.mark.floor v.m.mark.counts 0) [] v.m.core → v.m.core.settings ≡ m → v.m.lead ≡ leads.m
    → v.ledger ≡ record { table = a; frames = []; published = [] } → Holds (world_of a b m leads of_a of_b of_m) [] v
begun_holds a b m leads of_a of_b of_m v agree left a_mark a_stands a_settings a_lead b_mark b_stands b_settings b_lead m_mark m_stands m_settings m_lead ledger = record {
  history = may_begin a b m leads of_a of_b of_m agree left;
  seats = elim [
    | A ↦ record { kind = ap OfNode a_settings; lead = a_lead; come = come_first (world_of a b m leads of_a of_b of_m) A (seat_of A v.a) a_mark a_stands }
    | B ↦ record { kind = ap OfNode b_settings; lead = b_lead; come = come_first (world_of a b m leads of_a of_b of_m) B (seat_of B v.b) b_mark b_stands }
    | M ↦ record { kind = ap OfMerger m_settings; lead = m_lead; come = come_first (world_of a b m leads of_a of_b of_m) M (seat_of M v.m) m_mark m_stands }
  ];
  ledger = record { table = ap (λ (l : LedgerView). l.table) ledger; frames = ap (λ (l : LedgerView). l.frames) ledger; published = ap (λ (l : LedgerView). l.published) ledger };
}
