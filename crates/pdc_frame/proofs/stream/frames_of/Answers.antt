use Rattle.std.proofs.Common.{◌≡◌, ℕ, suc, ◌<◌, List, [], ◌∷◌, ◌++◌, length, take, drop, get_or, Option, Some, None, Vec, refl, ap, sym, subst, ◌∙◌, append_assoc}
use Rattle.std.specs.Prelude.{flat_map}
use Rattle.std.proofs.Math.Seq.{drop-cons}
use Rattle.std.proofs.lemmas.List.{take_all, append-nil, take-append-drop}
use Rattle.std.proofs.lemmas.Grind.{flat_map-append}
use Rattle.pdc_frame.specs.declared.fault.FrameFault.{FrameFault}
use Rattle.pdc_frame.specs.declared.step.Step.{Step}
use Rattle.pdc_frame.specs.declared.step.Step.TheVariants.{More, Whole, Bad}
use Rattle.pdc_frame.specs.Stream.{Held, HasTaken, IsBad, Splits, pending_of, fault_of}
use Rattle.pdc_frame.proofs.Streams.{taken_split, no_others}
use Rattle.pdc_frame.proofs.stream.frames_of.Goals as goal

abbrev joined : {A : Type 0} → List (Vec ℕ A) → List ℕ
joined pieces = flat_map (λ piece. piece.items) pieces

-- the pieces before one, that one, and those behind it
at_piece : {A : Type 0} (pieces : List (Vec ℕ A)) (k : ℕ) (piece : Vec ℕ A) → k < length pieces → piece ≡ get_or pieces k piece
    → joined pieces ≡ joined (take k pieces) ++ (piece.items ++ joined (drop (suc k) pieces))
at_piece {A} pieces k piece lt is =
    let cut : drop k pieces ≡ piece ∷ drop (suc k) pieces = drop-cons pieces k piece lt ∙ ap (λ (p : Vec ℕ A). p ∷ drop (suc k) pieces) (sym is) in
    ap joined (sym (take-append-drop k pieces)) ∙ flat_map-append (λ (p : Vec ℕ A). p.items) (take k pieces) (drop k pieces) ∙ ap (λ (ps : List (Vec ℕ A)). joined (take k pieces) ++ joined ps) cut

-- what is unread behind a fault
behind : {A : Type 0} (pieces : List (Vec ℕ A)) (k n : ℕ) (piece : Vec ℕ A) → k < length pieces → piece ≡ get_or pieces k piece
    → (joined (take k pieces) ++ take n piece.items) ++ (drop n piece.items ++ joined (drop (suc k) pieces)) ≡ joined pieces
behind pieces k n piece lt is =
    append_assoc (joined (take k pieces)) (take n piece.items) (drop n piece.items ++ joined (drop (suc k) pieces))
    ∙ ap (λ (xs : List ℕ). joined (take k pieces) ++ xs) (sym (append_assoc (take n piece.items) (drop n piece.items) (joined (drop (suc k) pieces))) ∙ ap (λ (xs : List ℕ). xs ++ joined (drop (suc k) pieces)) (take-append-drop n piece.items))
    ∙ sym (at_piece pieces k piece lt is)

bad_split : (stream whole unread : List ℕ) (frames : List (List ℕ)) (held : Held) (why : FrameFault) → held.step ≡ Bad why → HasTaken stream frames held → stream ++ unread ≡ whole
    → (rest : List ℕ) × Splits whole frames rest (Some why)
bad_split stream whole unread frames held why bad h e =
    let fault : fault_of held.step ≡ Some why = ap fault_of bad in (
      pending_of held.step held.bytes ++ unread,
      subst (λ (f : Option FrameFault). Splits whole frames (pending_of held.step held.bytes ++ unread) f) fault
          (subst (λ (xs : List ℕ). Splits xs frames (pending_of held.step held.bytes ++ unread) (fault_of held.step)) e
          (taken_split stream unread frames held h (λ none. let other : None ≡ Some why = sym none ∙ fault in cc))),
    )

good_fault : (step : Step) → (IsBad step → ⊥) → fault_of step ≡ None
good_fault More h = refl
good_fault Whole h = refl
good_fault (Bad fault) h = absurd (h tt)

good_split : (stream whole : List ℕ) (frames : List (List ℕ)) (held : Held) → (IsBad held.step → ⊥) → HasTaken stream frames held → stream ≡ whole → (rest : List ℕ) × Splits whole frames rest None
good_split stream whole frames held good h e = (
  pending_of held.step held.bytes ++ [],
  subst (λ (f : Option FrameFault). Splits whole frames (pending_of held.step held.bytes ++ []) f) (good_fault held.step good)
      (subst (λ (xs : List ℕ). Splits xs frames (pending_of held.step held.bytes ++ []) (fault_of held.step)) (append-nil stream ∙ e) (taken_split stream [] frames held h (λ none. refl))),
)

pub returns-in-Some-clause-split : goal.returns-in-Some-clause-split
returns-in-Some-clause-split g c =
    let some = c.in_ok-fault.ensures.some c.in-Some.fault c.in-Some.is in
    bad_split _ _ (drop some.1 c.piece-item.result.items ++ joined (drop (suc c.loop-piece.piece-index) c.args.pieces.now)) _ c.add_frames.new.framer c.in-Some.fault some.0
    (some.2 _ c.loop-piece.invariant.taken)
    (ap (λ (text : List ℕ). (joined (take c.loop-piece.piece-index c.args.pieces.now) ++ take some.1 text) ++ (drop some.1 c.piece-item.result.items ++ joined (drop (suc c.loop-piece.piece-index) c.args.pieces.now))) c.deref.ensures.value
    ∙ behind c.args.pieces.now c.loop-piece.piece-index some.1 c.piece-item.result c.loop-piece-test.true c.piece-item.is)

pub returns-in-Some-clause-only : goal.returns-in-Some-clause-only
returns-in-Some-clause-only g c = let found = returns-in-Some-clause-split g c in no_others _ _ found.0 _ found.1

pub returns-clause-split : goal.returns-clause-split
returns-clause-split g c = good_split _ _ _ c.loop-piece.framer c.loop-piece.invariant.good c.loop-piece.invariant.taken (ap joined (take_all _ _ c.loop-piece-test.false))

pub returns-clause-only : goal.returns-clause-only
returns-clause-only g c = let found = returns-clause-split g c in no_others _ _ found.0 _ found.1
