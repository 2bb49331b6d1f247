-- The frames that a simulated PMU sends, and those that a sink took of them.
use Rattle.std.specs.Prelude.{◌≡◌, refl, ◌⊎◌, ℕ, zero, suc, ◌+◌, ◌*◌, ◌/◌, ◌%◌, ◌^◌, ◌-◌, min, nat_eq, nat_lt, Bool, true, false, ◌&&◌, if◌then◌else◌, List, [], ◌∷◌, ◌++◌, length, map, Option, None, Some, IsSomeAnd}
use Rattle.pdc_cfg.specs.Section.{SectionFields}
use Rattle.pdc_cfg.specs.Shape.{word_count_of}
use Rattle.pdc_simulation.specs.Pmu.{PmuView, config_of, data_of, is_later, new_pmu}
use Rattle.pdc_frame.specs.declared.tag_limits.TheConstants.{SECONDS}
use Rattle.pdc_simulation.specs.declared.grid.TheConstants.{WORDS}
use Rattle.pdc_simulation.specs.declared.begun.TheConstants.{COUNTING_WORDS, TIME_BASE}
use Rattle.pdc_simulation.specs.declared.handing.TheConstants.{PHASORS}
use Rattle.pdc_simulation.specs.declared.simulated.Simulated.{Simulated}

-- A run: a PMU's stream id and rate; how many instants there are, one after the other, and the first of them; after how many seconds its
-- configuration is sent again; and whether it stands at a bus of the grid.
pub record Run : Type 0 where
  pub id : ℕ
  pub rate : ℕ
  pub count : ℕ
  pub first : ℕ
  pub every : Option ℕ
  pub is_grid : Bool

abbrev pub run_of : Simulated → (first : ℕ) → Run
run_of simulated first = record {
  id = simulated.id.value;
  rate = simulated.rate;
  count = simulated.count;
  first = first;
  every = simulated.config_every;
  is_grid = simulated.is_grid;
}

-- one frame: the configuration, which is the same one each time, or data of an instant
pub data Out : Type 0 where
  Config : Out
  DataAt : (instant : ℕ) → (words : List ℕ) → Out

-- its bytes; what a data frame of a PMU says does not hang on what it sent before
abbrev pub bytes_of : Run → (config : List ℕ) → Out → List ℕ
bytes_of run config Config = config
bytes_of run config (DataAt instant words) = data_of (new_pmu run.id run.rate TIME_BASE) instant words

abbrev pub frames_of : Run → (config : List ℕ) → List Out → List (List ℕ)
frames_of run config outs = map (bytes_of run config) outs

-- The words of the data frame with this number: STAT 0, the phasor (number, 0), FREQ and DFREQ 0. At a bus of the grid they are 16, and
-- STAT is 0.
abbrev pub AreWords : (is_grid : Bool) → (number : ℕ) → (words : List ℕ) → Type 0
AreWords is_grid number words =
    (is_grid ≡ false → words ≡ 0 ∷ number % PHASORS ∷ 0 ∷ 0 ∷ 0 ∷ []) × (is_grid ≡ true → (values : List ℕ) × (words ≡ 0 ∷ values) × (length words ≡ WORDS))

-- how many there are
abbrev pub word_count : (is_grid : Bool) → ℕ
word_count true = WORDS
word_count false = COUNTING_WORDS

-- The configuration is due again where seconds that the run asks for, or twice as many and so on, have gone by since the first frame.
abbrev pub is_due : (every : Option ℕ) → (rate number : ℕ) → Bool
is_due None rate number = false
is_due (Some seconds) rate number = nat_lt 0 number && (nat_lt 0 (seconds * rate) && nat_eq (number % (seconds * rate)) 0)

abbrev pub again : Run → (number : ℕ) → List Out
again run number = if is_due run.every run.rate number then Config ∷ [] else []

-- The instant with this number is so many after the first one. Data of it is sent where a frame can tell it.
abbrev pub data_at : Run → (number : ℕ) → (words : List ℕ) → List Out
data_at run number words = if nat_lt (run.first + number) (SECONDS * run.rate) then DataAt (run.first + number) words ∷ [] else []

-- What is sent of the instants with the first so many numbers, in order.
abbrev pub IsUpTo : Run → (numbers : ℕ) → List Out → Type 0
IsUpTo run zero outs = outs ≡ []
IsUpTo run (suc number) outs =
    (before : List Out) × (words : List ℕ) × IsUpTo run number before × AreWords run.is_grid number words × (outs ≡ before ++ (again run number ++ data_at run number words))

-- All that is sent: the configuration, and what is sent of the instants.
abbrev pub IsAll : Run → List Out → Type 0
IsAll run outs = (later : List Out) × IsUpTo run run.count later × (outs ≡ Config ∷ later)

-- the first part of what is sent of the instants
abbrev pub IsFirstPart : Run → List Out → Type 0
IsFirstPart run outs = (rest : List Out) × IsUpTo run run.count (outs ++ rest)

-- the first part of all that is sent
abbrev pub IsFront : Run → List Out → Type 0
IsFront run outs = (rest : List Out) × IsAll run (outs ++ rest)

-- the second of the first instant, or the greatest one that a frame can tell
abbrev pub second_of : (first rate : ℕ) → ℕ
second_of first rate = min (first / rate) (2 ^ 32 - 1)

-- The frame is a new PMU's first configuration, of one section with as many words as are sent.
pub record IsConfigured (run : Run) (config : List ℕ) : Type 0 where
  pub section : SectionFields
  pub fits : word_count_of section.shape ≡ word_count run.is_grid
  pub is_config : config ≡ config_of (new_pmu run.id run.rate TIME_BASE) (second_of run.first run.rate) section

-- A PMU of the run stands before the instant with this number.
pub record Stands (run : Run) (number : ℕ) (pmu : PmuView) : Type 0 where
  pub same_id : pmu.id ≡ run.id
  pub same_rate : pmu.rate ≡ run.rate
  pub same_base : pmu.time_base ≡ TIME_BASE
  pub fits : IsSomeAnd pmu.shape (λ shape. word_count_of shape ≡ word_count run.is_grid)
  pub later : is_later pmu.last (run.first + number) ≡ true

-- From the one state to the other the sink took these frames more.
pub record TakesMore {K : Type 0} (took : K → K → List (List ℕ) → Type 0) (old new : K) (frames : List (List ℕ)) : Type 0 where
  pub more : (before : K) (given : List (List ℕ)) → took before old given → took before new (given ++ frames)

-- and those were such
abbrev pub HasTaken : {K : Type 0} (took : K → K → List (List ℕ) → Type 0) (run : Run) (config : List ℕ) (are : List Out → Type 0) (before now : K) → Type 0
HasTaken took run config are before now = (outs : List Out) × are outs × TakesMore took before now (frames_of run config outs)

-- The sink took all frames of the run.
abbrev pub IsSimulated : {K : Type 0} (took : K → K → List (List ℕ) → Type 0) (run : Run) (before now : K) → Type 0
IsSimulated took run before now = (config : List ℕ) × IsConfigured run config × (outs : List Out) × IsAll run outs × took before now (frames_of run config outs)

-- The sink took the first part of them, perhaps none.
abbrev pub IsCutShort : {K : Type 0} (took : K → K → List (List ℕ) → Type 0) (run : Run) (before now : K) → Type 0
IsCutShort took run before now =
    took before now [] ⊎ ((config : List ℕ) × IsConfigured run config × (outs : List Out) × IsFront run outs × took before now (frames_of run config outs))

-- Worked: at 50 frames a second, with the configuration again after each second, it is due before frame 50, and neither before 0 nor 49.
pub due_at_50 : is_due (Some 1) 50 50 ≡ true
due_at_50 = refl

pub none_due_at_0 : is_due (Some 1) 50 0 ≡ false
none_due_at_0 = refl

pub none_due_at_49 : is_due (Some 1) 50 49 ≡ false
none_due_at_49 = refl
