-- A simulated PMU, and the frames that it sends (IEEE C37.118.2-2011, 6.3 and 6.4; that it has one section, and its counts, are
-- this profile's).
use Rattle.std.specs.Prelude.{ℕ, ◌+◌, pos, Bool, true, false, nat_lt, List, [], ◌∷◌, Option, Some, None}
use Rattle.pdc_frame.specs.Frame.{Fields, spelling_of}
use Rattle.pdc_frame.specs.declared.frame.Kind.TheVariants.{DataFrame, Cfg2}
use Rattle.pdc_cfg.specs.Config.{ConfigFields, config_frame_of}
use Rattle.pdc_cfg.specs.Section.{SectionFields}
use Rattle.pdc_cfg.specs.declared.shape.Shape.{Shape}
use Rattle.pdc_block.specs.Block.{bytes_of_words}
use Rattle.pdc_frame.specs.Tag.{tag_of}
use Rattle.pdc_simulation.specs.Renamed.{renamed}

-- what a PMU is: its stream id, which is its source too, its rate and its TIME_BASE; the shape and the count of its last
-- configuration, at first none and 0; the instant of its last data frame; and whether it sent a frame
pub record PmuView : Type 0 where
  pub id : ℕ
  pub rate : ℕ
  pub time_base : ℕ
  pub shape : Option Shape
  pub count : ℕ
  pub last : Option ℕ
  pub has_sent : Bool

abbrev pub new_pmu : (id rate time_base : ℕ) → PmuView
new_pmu id rate time_base = record { id = id; rate = rate; time_base = time_base; shape = None; count = 0; last = None; has_sent = false }

-- the instant is above the last one, or the first
abbrev pub is_later : Option ℕ → ℕ → Bool
is_later None instant = true
is_later (Some last) instant = nat_lt last instant

-- The data frame of an instant: its tag, time quality 0, and the words.
abbrev pub data_fields : PmuView → (instant : ℕ) → (words : List ℕ) → Fields
data_fields pmu instant words = record {
  kind = DataFrame;
  version = 2;
  id = pmu.id;
  soc = (tag_of instant pmu.time_base pmu.rate).0;
  quality = 0;
  frac = (tag_of instant pmu.time_base pmu.rate).1;
  payload = bytes_of_words words;
}

abbrev pub data_of : PmuView → (instant : ℕ) → (words : List ℕ) → List ℕ
data_of pmu instant words = spelling_of (data_fields pmu instant words)

-- The next configuration: the section alone, with the PMU's id as source and the next count.
abbrev pub next_config : PmuView → SectionFields → ConfigFields
next_config pmu s = record {
  flags = 0;
  time_base = pmu.time_base;
  sections = renamed pmu.id (pmu.count + 1) s ∷ [];
  rate = pos pmu.rate;
}

abbrev pub config_of : PmuView → (soc : ℕ) → SectionFields → List ℕ
config_of pmu soc s = spelling_of (config_frame_of Cfg2 pmu.id soc (next_config pmu s))

-- what a frame that was sent makes of the PMU
abbrev pub after_header : PmuView → PmuView
after_header pmu = record pmu { has_sent = true }

abbrev pub after_config : PmuView → SectionFields → PmuView
after_config pmu s = record pmu { shape = Some s.shape; count = pmu.count + 1; has_sent = true }

abbrev pub after_data : PmuView → (instant : ℕ) → PmuView
after_data pmu instant = record pmu { last = Some instant; has_sent = true }
