use Rattle.std.proofs.Common.{◌≡◌, inl, inr, ℕ, ◌+◌, ◌-◌, ◌≤◌, List, [], ◌∷◌, ◌++◌, length, take, drop, Vec, ap, sym, subst, ◌∙◌, arith, length-take, length-drop}
use Rattle.std.specs.Prelude.{map}
use Rattle.std.proofs.lemmas.List.{take_all}
use Rattle.pdc_frame.specs.declared.fault.FrameFault.{FrameFault}
use Rattle.pdc_frame.specs.declared.step.Step.{Step}
use Rattle.pdc_frame.specs.declared.step.Step.TheVariants.{More, Whole, Bad}
use Rattle.pdc_frame.specs.Stream.{Held, HasTaken, GoesOn, given_at}
use Rattle.pdc_frame.proofs.Streams.{goes_further, none_given, none_bad}
use Rattle.pdc_frame.proofs.stream.add_frames.Goals as goal

abbrev texts : {A : Type 0} → List (Vec ℕ A) → List (List ℕ)
texts frames = map (λ f. f.items) frames

within_piece : (piece : List ℕ) (at n : ℕ) → at ≤ length piece → n ≤ length (take (length piece - at) (drop at piece)) → at + n ≤ length piece
within_piece piece at n lt le = omega (arith, length-take (length piece - at) (drop at piece), length-drop at piece)

no_frame : (a : Step) → a ≡ More → a ≡ Whole → ⊥
no_frame a e h = let same : More ≡ Whole = sym e ∙ h in cc

no_frame-bad : (a : Step) (fault : FrameFault) → a ≡ Bad fault → a ≡ Whole → ⊥
no_frame-bad a fault e h = let same : Bad fault ≡ Whole = sym e ∙ h in cc

kept_behind : {A : Type 0} (frames new : List (Vec ℕ A)) (step : Step) (bytes text : List ℕ) → texts new ≡ texts frames ++ text ∷ [] → step ≡ Whole → text ≡ bytes
    → texts new ≡ texts frames ++ given_at step bytes
kept_behind frames new step bytes text kept at same =
    kept ∙ ap (λ (xs : List ℕ). texts frames ++ xs ∷ []) same ∙ ap (λ (s : Step). texts frames ++ given_at s bytes) (sym at)

all_taken : (piece : List ℕ) (at : ℕ) (first : List (List ℕ)) (start : Held) (frames : List (List ℕ)) (new : Held) → length piece ≤ at → GoesOn (take at piece) first start frames new → GoesOn piece first start frames new
all_taken piece at first start frames new le h stream taken = subst (λ (xs : List ℕ). HasTaken (stream ++ xs) frames new) (take_all at piece le) (h stream taken)

pub loop-at-preserved-in-More : goal.loop-at-preserved-in-More
loop-at-preserved-in-More g c =
    record {
      within = within_piece _ _ _ c.loop-at.invariant.within c.feed-taken.ensures.taken;
      good = none_bad _ _ c.feed-taken.ensures.step (inl c.in-More.is);
      follows = goes_further c.args.piece.now c.feed-taken.new.self.bytes c.loop-at.at c.feed-taken.result.0 (texts c.args.frames.now.items) (texts c.loop-at.frames.items) (texts c.loop-at.frames.items) c.feed-taken.result.1
          c.args.framer.now c.loop-at.framer c.feed-taken.new.self c.loop-at.invariant.follows c.feed-taken.ensures.stream (none_given _ _ _ (no_frame _ c.in-More.is));
    }

pub loop-at-preserved : goal.loop-at-preserved
loop-at-preserved g c =
    record {
      within = within_piece _ _ _ c.loop-at.invariant.within c.feed-taken.ensures.taken;
      good = none_bad _ _ c.feed-taken.ensures.step (inr c.in-Whole.is);
      follows = goes_further c.args.piece.now c.feed-taken.new.self.bytes c.loop-at.at c.feed-taken.result.0 (texts c.args.frames.now.items) (texts c.loop-at.frames.items) (texts c.keep.new.frames.items) c.feed-taken.result.1
          c.args.framer.now c.loop-at.framer c.feed-taken.new.self c.loop-at.invariant.follows c.feed-taken.ensures.stream
          (kept_behind c.loop-at.frames.items c.keep.new.frames.items c.feed-taken.result.1 c.feed-taken.new.self.bytes c.frame.result.now c.in_ok-keep-in-Whole.ensures.kept c.in-Whole.is c.frame.ensures.bytes);
    }

pub returns-in-Bad-clause-some : goal.returns-in-Bad-clause-some
returns-in-Bad-clause-some g c = λ why e.
    let fault : c.in-Bad.fault ≡ why = cc in (
      c.feed-taken.ensures.step ∙ c.in-Bad.is ∙ ap Bad fault,
      c.loop-at.at + c.feed-taken.result.0,
      goes_further c.args.piece.now c.feed-taken.new.self.bytes c.loop-at.at c.feed-taken.result.0 (texts c.args.frames.now.items) (texts c.loop-at.frames.items) (texts c.loop-at.frames.items) c.feed-taken.result.1
          c.args.framer.now c.loop-at.framer c.feed-taken.new.self c.loop-at.invariant.follows c.feed-taken.ensures.stream (none_given _ _ _ (no_frame-bad _ _ c.in-Bad.is)),
    )

pub returns-clause-none : goal.returns-clause-none
returns-clause-none g c = λ e. (c.loop-at.invariant.good, all_taken _ _ _ _ _ _ c.loop-at-test.false c.loop-at.invariant.follows)
