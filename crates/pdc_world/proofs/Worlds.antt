-- What holds of every history cannot fail to hold of what is seen of a world.
use Rattle.std.proofs.Common.{◌≡◌, List, subst, sym}
use Rattle.pdc_world.proofs.HeadlineNames.{A, B, Happened, Holds, HoldsSome, IsHistory, listed, M, OfHistories, Published, rows_of, Seen, seen_in, seen_of, World, WorldView}
use Rattle.pdc_life.specs.CoreKind.{OfMerger, OfNode}
use Rattle.pdc_world.proofs.Told.{CannotFail}

of_history : (C : Seen → List Published → Type 0) (v : WorldView) (W : World) (H : List Happened) → ((X : World) (Y : List Happened) → IsHistory X Y → C (seen_in X Y) (listed X Y))
    → Holds W H v → C (seen_of v) (rows_of v)
of_history C v W H f h =
    let node_a : OfNode v.a.core.settings ≡ OfNode W.a.settings = (h.seats A).kind in
    let node_b : OfNode v.b.core.settings ≡ OfNode W.b.settings = (h.seats B).kind in
    let merger : OfMerger v.m.core.settings ≡ OfMerger W.m.settings = (h.seats M).kind in
    let a : v.a.core.settings ≡ W.a.settings = cc in
    let b : v.b.core.settings ≡ W.b.settings = cc in
    let m : v.m.core.settings ≡ W.m.settings = cc in
    let same : ◌≡◌ {A = Seen × List Published} (seen_of v, rows_of v) (seen_in W H, listed W H) =
    λ i. (record { a = a i; b = b i; m = m i; frames = h.ledger.frames i }, h.ledger.published i) in
    subst (λ (p : Seen × List Published). C p.0 p.1) (sym same) (f W H h.history)

pub of_world : (C : Seen → List Published → Type 0) (v : WorldView) → ((W : World) (H : List Happened) → IsHistory W H → C (seen_in W H) (listed W H)) → HoldsSome v → CannotFail (C (seen_of v) (rows_of v))
of_world C v f some = λ none. some (λ W H h. none (of_history C v W H f h))

-- the same of frames alone
pub of_frames : (C : Seen → Type 0) (v : WorldView) → OfHistories C → HoldsSome v → CannotFail (C (seen_of v))
of_frames C v f = of_world (λ seen rows. C seen) v f
