-- The frames that were sent last, for those who ask later: at most 256, in the order of their instants.
use Rattle.std.specs.Prelude.{◌≡◌, refl, ℕ, List, [], ◌∷◌, ◌++◌, length, drop, ◌-◌, ◌<◌, ◌≤◌, max, Bool, true, false, nat_le, nat_lt, flat_map, Option, Some, None}
use Rattle.std.specs.List.{filter}
use Rattle.pdc_session.specs.declared.recent.SentFrame.{SentFrame}

-- a frame that was sent, and its instant
pub record Kept : Type 0 where
  pub instant : ℕ
  pub bytes : List ℕ

-- what is kept of a frame
abbrev pub frame_of : {A : Type 0} → SentFrame A → Kept
frame_of sent = record { instant = sent.instant; bytes = sent.bytes.items }

-- the frames, the oldest first, and the greatest instant of all that were pushed
pub record RecentView : Type 0 where
  pub frames : List Kept
  pub greatest : Option ℕ

-- the instant is not above the greatest one
abbrev pub is_old : Option ℕ → ℕ → Bool
is_old None instant = false
is_old (Some greatest) instant = nat_le instant greatest

-- the last 256
abbrev pub last_256 : List Kept → List Kept
last_256 frames = drop (length frames - 256) frames

-- what a push makes of them
abbrev pub pushed : RecentView → (instant : ℕ) → (bytes : List ℕ) → RecentView
pushed recent instant bytes = record {
  frames = last_256 (recent.frames ++ record { instant = instant; bytes = bytes } ∷ []);
  greatest = Some instant;
}

-- those whose instant is above this one, in order
abbrev pub above : (instant : ℕ) → List Kept → List Kept
above instant frames = filter (λ frame. nat_lt instant frame.instant) frames

-- their bytes, one frame behind another
abbrev pub bytes_of : List Kept → List ℕ
bytes_of frames = flat_map (λ frame. frame.bytes) frames

-- the greatest of an instant and of theirs
abbrev pub greatest_of : (instant : ℕ) → List Kept → ℕ
greatest_of instant [] = instant
greatest_of instant (frame ∷ frames) = greatest_of (max instant frame.instant) frames

-- each has an instant above this one
abbrev pub AreAbove : (instant : ℕ) → List Kept → Type 0
AreAbove instant [] = Unit {0}
AreAbove instant (frame ∷ frames) = (instant < frame.instant) × AreAbove instant frames

-- their instants rise strictly
abbrev pub AreRising : List Kept → Type 0
AreRising [] = Unit {0}
AreRising (frame ∷ frames) = AreAbove frame.instant frames × AreRising frames

-- each has an instant of at most this one; where there is none, there is no frame
abbrev pub AreCovered : Option ℕ → List Kept → Type 0
AreCovered greatest [] = Unit {0}
AreCovered None (frame ∷ frames) = ⊥
AreCovered (Some greatest) (frame ∷ frames) = (frame.instant ≤ greatest) × AreCovered (Some greatest) frames

-- Worked: of frames of the instants 1, 2 and 4, those above 1 are the last two, and 4 is the greatest; 4 again is old.
abbrev pub three_frames : List Kept
three_frames = record { instant = 1; bytes = 10 ∷ [] } ∷ record { instant = 2; bytes = 20 ∷ 21 ∷ [] } ∷ record { instant = 4; bytes = 40 ∷ [] } ∷ []

pub two_above_1 : bytes_of (above 1 three_frames) ≡ 20 ∷ 21 ∷ 40 ∷ []
two_above_1 = refl

pub greatest_is_4 : greatest_of 1 (above 1 three_frames) ≡ 4
greatest_is_4 = refl

pub none_above_4 : (above 4 three_frames ≡ []) × (greatest_of 4 (above 4 three_frames) ≡ 4)
none_above_4 = (refl, refl)

pub four_is_old : is_old (Some 4) 4 ≡ true
four_is_old = refl
