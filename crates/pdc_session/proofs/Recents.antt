-- A push, as a list of what is kept.
use Rattle.std.proofs.Common.{◌≡◌, ℕ, ◌+◌, ◌-◌, ◌<◌, ◌≤◌, List, [], ◌∷◌, ◌++◌, length, drop, refl, sym, ap, ◌∙◌, arith, length-append, length-drop}
use Rattle.std.specs.Prelude.{map, Some}
use Rattle.std.proofs.lemmas.List.{map-append, length-map}
use Rattle.pdc_session.specs.declared.recent.SentFrame.{SentFrame}
use Rattle.pdc_session.specs.Recent.{Kept, RecentView, frame_of, last_256}

mapped : {A : Type 0} (items : List (SentFrame A)) (sent : SentFrame A) → map frame_of (items ++ sent ∷ []) ≡ map frame_of items ++ frame_of sent ∷ []
mapped items sent = map-append frame_of items (sent ∷ [])

-- where there is room, it stands behind them
pub pushed_room : {A : Type 0} (items new : List (SentFrame A)) (sent : SentFrame A) → length items < 256 → new ≡ items ++ sent ∷ [] → map frame_of new ≡ last_256 (map frame_of items ++ frame_of sent ∷ [])
pushed_room {A = A} items new sent lt e =
    let all : List Kept = map frame_of items ++ frame_of sent ∷ [] in
    let len : length all ≡ length (map frame_of items) + 1 = length-append (map frame_of items) (frame_of sent ∷ []) in
    let none : length all - 256 ≡ 0 = omega (arith, length-map items frame_of) in
    ap (λ (xs : List (SentFrame A)). map frame_of xs) e ∙ mapped items sent ∙ sym (ap (λ (n : ℕ). drop n all) none)

-- where there is none, the first goes
pub pushed_full : {A : Type 0} (items new : List (SentFrame A)) (sent : SentFrame A) → length items ≡ 256 → new ≡ drop 1 items ++ sent ∷ [] → map frame_of new ≡ last_256 (map frame_of items ++ frame_of sent ∷ [])
pushed_full {A = A} [] new sent full e = let no : ⊥ = omega (arith, full) in absurd no
pushed_full {A = A} (i ∷ others) new sent full e =
    let all : List Kept = frame_of i ∷ (map frame_of others ++ frame_of sent ∷ []) in
    let len : length (map frame_of others ++ frame_of sent ∷ []) ≡ length (map frame_of others) + 1 = length-append (map frame_of others) (frame_of sent ∷ []) in
    let one : length all - 256 ≡ 1 = omega (arith, length-map others frame_of, full) in
    ap (λ (xs : List (SentFrame A)). map frame_of xs) e ∙ mapped others sent ∙ sym (ap (λ (n : ℕ). drop n all) one)

pub few_last : (frames : List Kept) → length (last_256 frames) ≤ 256
few_last frames = omega (arith, length-drop (length frames - 256) frames)

abbrev pub view_of : ℕ → List Kept → RecentView
view_of instant frames = record { frames = frames; greatest = Some instant }

abbrev pub pushed_frame : ℕ → List ℕ → Kept
pushed_frame instant bytes = record { instant = instant; bytes = bytes }
