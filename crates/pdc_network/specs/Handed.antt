-- What destinations were handed.
use Rattle.std.specs.Prelude.{◌≡◌, ◌≤◌, ◌+◌, refl, ℕ, List, [], length, Option, None, Some}
use Rattle.std.specs.List.{flat_map}
use Rattle.std.proofs.Common.{arith}
use Rattle.std.proofs.lemmas.List.Elements.{All-nil}
use Rattle.pdc_network.specs.Sent.{Sent, Hand, HasSent, whole_of}
use Rattle.pdc_network.specs.declared.destination.Destination.{Destination}

-- From the one state of a destination to the other each of these frames was handed to its socket once, in order, with what came of it, and
-- nothing else was; all of it went to the destination's place.
abbrev pub WasHanded : {S : Type 0} (sent : S → S → List Sent → Type 0) (before now : Destination S) → List Hand → Type 0
WasHanded sent before now hands = HasSent sent now.to before.socket now.socket hands

-- The same of a destination with some number. A number that no destination has stays without one, and what it is handed goes nowhere.
abbrev pub WasHandedAt : {S : Type 0} (sent : S → S → List Sent → Type 0) (before now : Option (Destination S)) → List Hand → Type 0
WasHandedAt sent (Some before) (Some now) hands = WasHanded sent before now hands
WasHandedAt sent None None hands = Unit {0}
WasHandedAt sent _ _ hands = ⊥

-- A sink took these frames: those of what its destination was handed that went out whole. Each of its failures is a frame that was handed on
-- and did not go out whole.
pub record HasTaken {S : Type 0} (sent : S → S → List Sent → Type 0) (before now : Destination S) (failed_before failed_now : ℕ) (frames : List (List ℕ)) : Type 0 where
  pub hands : List Hand
  pub handed : WasHanded sent before now hands
  pub whole : flat_map whole_of hands ≡ frames
  pub failed : failed_now + length frames ≤ failed_before + length hands

-- From a state to itself nothing was handed on.
pub handed_nothing : {S : Type 0} (sent : S → S → List Sent → Type 0) (nothing : (s : S) → sent s s []) (one : Destination S) → WasHanded sent one one []
handed_nothing sent nothing one = record { calls = []; are_all = nothing one.socket; there = All-nil _; same = refl }

pub handed_nothing_at : {S : Type 0} (sent : S → S → List Sent → Type 0) (nothing : (s : S) → sent s s []) (one : Option (Destination S)) → WasHandedAt sent one one []
handed_nothing_at sent nothing None = tt
handed_nothing_at sent nothing (Some one) = handed_nothing sent nothing one

pub took_nothing : {S : Type 0} (sent : S → S → List Sent → Type 0) (nothing : (s : S) → sent s s []) (one : Destination S) (failed : ℕ) → HasTaken sent one one failed failed []
took_nothing sent nothing one failed = record { hands = []; handed = handed_nothing sent nothing one; whole = refl; failed = omega arith }
