-- What passes a limit, and one answer more.
use Rattle.std.proofs.Common.{◌≡◌, ℕ, List, [], ◌∷◌, ◌++◌, inl, inr, ap, ◌∙◌, refl, subst, sym, Option, None, Some}
use Rattle.std.proofs.lemmas.List.{append-nil}
use Rattle.std.proofs.lemmas.List.Concat.{flat_map-append}
use Rattle.std.specs.List.{flat_map}
use Rattle.pdc_ports.specs.Heard.{Heard, Gave, Idled, Ended, Failed, GaveUp}
use Rattle.pdc_network.specs.Passing.{IsLeftOut, AreKept, HasPassed}
use Rattle.pdc_network.specs.Received.{unless_idle}

pub one_left : (most : Option ℕ) (all kept : List Heard) (one : Heard) → AreKept most all kept → IsLeftOut most one → AreKept most (all ++ one ∷ []) kept
one_left most [] kept one are left = inl (left, are)
one_left most (x ∷ all) kept one are left = elim are [
  | inl later ↦ inl (later.0, one_left most all kept one later.1 left)
  | inr first ↦ inr (first.0, first.1, first.2, one_left most all first.1 one first.3 left)
]

pub one_kept : (most : Option ℕ) (all kept : List Heard) (one : Heard) → AreKept most all kept → (IsLeftOut most one → ⊥) → AreKept most (all ++ one ∷ []) (kept ++ one ∷ [])
one_kept most [] kept one are stays = inr (stays, [], ap (λ xs. xs ++ one ∷ []) are, refl)
one_kept most (x ∷ all) kept one are stays = elim are [
  | inl later ↦ inl (later.0, one_kept most all kept one later.1 stays)
  | inr first ↦ inr (first.0, first.1 ++ one ∷ [], ap (λ xs. xs ++ one ∷ []) first.2, one_kept most all first.1 one first.3 stays)
]

-- the same of lists to which an answer adds nothing where it is a pause
said : (all : List Heard) (one : Heard) → flat_map unless_idle (all ++ one ∷ []) ≡ flat_map unless_idle all ++ (unless_idle one ++ [])
said all one = flat_map-append unless_idle all (one ∷ [])

added : (most : Option ℕ) (all kept : List Heard) (one : Heard) → AreKept most all kept → (IsLeftOut most one → ⊥) → AreKept most (all ++ (unless_idle one ++ [])) (kept ++ (unless_idle one ++ []))
added most all kept (Gave bytes) are stays = one_kept most all kept (Gave bytes) are stays
added most all kept Idled are stays = subst (λ xs. AreKept most xs (kept ++ [])) (sym (append-nil all)) (subst (λ xs. AreKept most all xs) (sym (append-nil kept)) are)
added most all kept Ended are stays = one_kept most all kept Ended are stays
added most all kept Failed are stays = one_kept most all kept Failed are stays
added most all kept GaveUp are stays = one_kept most all kept GaveUp are stays

-- It passes.
pub passes : (told later : List Heard → Type 0) (most : Option ℕ) (heard : List Heard) (one : Heard) → HasPassed told most heard →
    ((all : List Heard) → told all → later (all ++ one ∷ [])) → (IsLeftOut most one → ⊥) → HasPassed later most (heard ++ one ∷ [])
passes told later most heard one has tells stays = record {
  all = has.all ++ one ∷ [];
  are_all = tells has.all has.are_all;
  kept = subst (λ xs. AreKept most xs (flat_map unless_idle (heard ++ one ∷ []))) (sym (said has.all one))
      (subst (λ xs. AreKept most (flat_map unless_idle has.all ++ (unless_idle one ++ [])) xs) (sym (said heard one)) (added most (flat_map unless_idle has.all) (flat_map unless_idle heard) one has.kept stays));
}

-- It is a pause above, and nothing below.
silent : (heard : List Heard) → flat_map unless_idle (heard ++ Idled ∷ []) ≡ flat_map unless_idle heard
silent heard = said heard Idled ∙ append-nil (flat_map unless_idle heard)

pub pauses : (told : List Heard → Type 0) (most : Option ℕ) (heard : List Heard) → HasPassed told most heard → HasPassed told most (heard ++ Idled ∷ [])
pauses told most heard has = record {
  all = has.all;
  are_all = has.are_all;
  kept = subst (λ xs. AreKept most (flat_map unless_idle has.all) xs) (sym (silent heard)) has.kept;
}

-- It is a pause above, and below a configuration that is left out.
pub leaves : (told later : List Heard → Type 0) (most : Option ℕ) (heard : List Heard) (bytes : List ℕ) → HasPassed told most heard →
    ((all : List Heard) → told all → later (all ++ Gave bytes ∷ [])) → IsLeftOut most (Gave bytes) → HasPassed later most (heard ++ Idled ∷ [])
leaves told later most heard bytes has tells left = record {
  all = has.all ++ Gave bytes ∷ [];
  are_all = tells has.all has.are_all;
  kept = subst (λ xs. AreKept most xs (flat_map unless_idle (heard ++ Idled ∷ []))) (sym (said has.all (Gave bytes)))
      (subst (λ xs. AreKept most (flat_map unless_idle has.all ++ Gave bytes ∷ []) xs) (sym (silent heard))
      (one_left most (flat_map unless_idle has.all) (flat_map unless_idle heard) (Gave bytes) has.kept left));
}

-- Whatever was left out is a datagram.
pub leaves_out : (told later : List Heard → Type 0) (most : Option ℕ) (heard : List Heard) (one : Heard) → HasPassed told most heard →
    ((all : List Heard) → told all → later (all ++ one ∷ [])) → IsLeftOut most one → HasPassed later most (heard ++ Idled ∷ [])
leaves_out told later (Some most) heard (Gave bytes) has tells left = leaves told later (Some most) heard bytes has tells left
leaves_out told later (Some most) heard Idled has tells left = absurd left
leaves_out told later (Some most) heard Ended has tells left = absurd left
leaves_out told later (Some most) heard Failed has tells left = absurd left
leaves_out told later (Some most) heard GaveUp has tells left = absurd left
leaves_out told later None heard one has tells left = absurd left

-- With no limit all are kept.
all_kept : (all : List Heard) → AreKept None all all
all_kept [] = refl
all_kept (one ∷ all) = inr (λ left. left, all, refl, all_kept all)

-- what passes where there is no limit
pub passes_all : (told : List Heard → Type 0) (heard : List Heard) → told heard → HasPassed told None heard
passes_all told heard has = record { all = heard; are_all = has; kept = all_kept (flat_map unless_idle heard) }
