-- What is kept of a stream under one lock.
use Rattle.std.specs.Prelude.{◌≡◌, ◌⊎◌, ℕ, Bool, true, false, List, [], ◌++◌, if◌then◌else◌, None}
use Rattle.pdc_session.specs.Recent.{RecentView, above, bytes_of, greatest_of, is_old, pushed}
use Rattle.pdc_server.specs.Places.{takes}
use Rattle.pdc_server.specs.Stamps.{is_stamp}
use Rattle.pdc_server.specs.declared.place.Place.{Place}
use Rattle.pdc_server.specs.declared.place.Seen.TheVariants.{Layout}
use Rattle.pdc_server.specs.declared.remembered.Remembered.{Remembered}
use Rattle.pdc_server.specs.declared.stamp.Stamp.{Stamp}

-- the layout in force and its frame, the last data frames of it, and those of the layout before it
pub record Memory : Type 0 where
  pub stamp : Stamp
  pub layout : List ℕ
  pub frames : RecentView
  pub older_stamp : Stamp
  pub older : RecentView

abbrev pub memory_of : {N : Type 0} {naming : _} → Remembered N naming → Memory
memory_of remembered = record {
  stamp = remembered.stamp;
  layout = remembered.layout.items;
  frames = remembered.frames;
  older_stamp = remembered.older_stamp;
  older = remembered.older;
}

-- In this call this was kept when the lock was taken. No proof but that of a function that takes the lock can say so.
unfoldable pub WasFound : Memory → Type 0
WasFound memory = Unit {0}

-- And this when it was given back.
unfoldable pub WasLeft : Memory → Type 0
WasLeft memory = Unit {0}

-- it holds of what was kept
abbrev pub OfFound : (Memory → Type 0) → Type 0
OfFound Holds = (memory : Memory) × WasFound memory × Holds memory

abbrev pub OfLeft : (Memory → Memory → Type 0) → Type 0
OfLeft Holds = (memory later : Memory) × WasFound memory × WasLeft later × Holds memory later

-- All frames of the layout in force above what one at this place got.
abbrev pub IsGivenAll : Memory → Place → (out : List ℕ) → (now : Place) → (grown : List ℕ) → Type 0
IsGivenAll memory place out now grown =
    (grown ≡ out ++ bytes_of (above place.got memory.frames.frames)) × (now.got ≡ greatest_of place.got (above place.got memory.frames.frames)) × (now.seen ≡ Layout memory.stamp)

-- The frame of the layout in force.
abbrev pub IsGivenLayout : Memory → Place → (out : List ℕ) → (now : Place) → (grown : List ℕ) → Type 0
IsGivenLayout memory place out now grown = (grown ≡ out ++ memory.layout) × (now.got ≡ place.got) × (now.seen ≡ Layout memory.stamp)

-- All frames of the layout before above what one at this place got.
abbrev pub IsGivenOlder : Memory → Place → (out : List ℕ) → (now : Place) → (grown : List ℕ) → Type 0
IsGivenOlder memory place out now grown =
    (grown ≡ out ++ bytes_of (above place.got memory.older.frames)) × (now.got ≡ greatest_of place.got (above place.got memory.older.frames)) × (now.seen ≡ Layout memory.older_stamp)

-- One who may be given frames of the layout in force is given all of them. Another who has just turned data on is given that layout's frame,
-- and none of the layout before; one who had data on before is given the frame, or what he lacks of the layout before.
abbrev pub IsGivenIn : (takes is_fresh : Bool) → Memory → Place → (out : List ℕ) → (now : Place) → (grown : List ℕ) → Type 0
IsGivenIn true is_fresh memory place out now grown = IsGivenAll memory place out now grown
IsGivenIn false true memory place out now grown = IsGivenLayout memory place out now grown
IsGivenIn false false memory place out now grown = IsGivenLayout memory place out now grown ⊎ IsGivenOlder memory place out now grown

abbrev pub IsGivenOf : Memory → Place → (is_fresh : Bool) → (out : List ℕ) → (now : Place) → (grown : List ℕ) → Type 0
IsGivenOf memory place is_fresh out now grown = IsGivenIn (takes place.seen memory.stamp) is_fresh memory place out now grown

-- what a data frame makes of the frames: one above all before is kept, and the oldest of 256 goes
abbrev pub kept_with : RecentView → (instant : ℕ) → (bytes : List ℕ) → RecentView
kept_with frames instant bytes = if is_old frames.greatest instant then frames else pushed frames instant bytes

-- what a data frame makes of what is kept, where the layout that it is of is in force; else it makes nothing
abbrev pub IsPushed : (is_kept : Bool) → Memory → Stamp → (instant : ℕ) → (bytes : List ℕ) → Memory → Type 0
IsPushed true memory stamp instant bytes later = (memory.stamp ≡ stamp) × (later ≡ record memory { frames = kept_with memory.frames instant bytes })
IsPushed false memory stamp instant bytes later = (is_stamp memory.stamp stamp ≡ false) × (later ≡ memory)

-- no data frame
abbrev pub no_frames : RecentView
no_frames = record { frames = []; greatest = None }

-- what the frame of a layout makes of it: the layout is in force from then on
abbrev pub laid_out : Memory → Stamp → (layout : List ℕ) → Memory
laid_out memory stamp layout = if is_stamp memory.stamp stamp then record memory { layout = layout }
    else record { stamp = stamp; layout = layout; frames = no_frames; older_stamp = memory.stamp; older = memory.frames }
