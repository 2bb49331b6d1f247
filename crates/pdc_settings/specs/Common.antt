-- What a node and the merger are told alike, key by key.
use Rattle.std.specs.Prelude.{◌≡◌, refl, ℕ, ◌/◌, Bool, ◌&&◌, List, codes, nat_eq, if◌then◌else◌, Option, Some, None, is_some, option_and_then}
use Rattle.std.specs.Cmp.Lexicographic.{pointwise}
use Rattle.toml.specs.Data.{Data, Members, as_str, get_member}
use Rattle.pdc_frame.specs.declared.limits.TheConstants.{MAX_ID}
use Rattle.pdc_frame.specs.declared.tag_limits.TheConstants.{MAX_RATE}
use Rattle.pdc_row.specs.declared.output.Nominal.{Nominal}
use Rattle.pdc_row.specs.declared.output.Nominal.TheVariants.{Hz50, Hz60}
use Rattle.pdc_row.specs.declared.output.Output.{Output}
use Rattle.pdc_life.specs.declared.timing.WaitKind.{WaitKind}
use Rattle.pdc_life.specs.declared.timing.WaitKind.TheVariants.{Relative, Absolute}
use Rattle.pdc_life.specs.declared.limits.TheConstants.{MAX_AHEAD, MAX_WAIT}
use Rattle.pdc_life.specs.pdc_row.declared.limits.TheConstants.{MAX_WINDOW, MIN_WINDOW}
use Rattle.pdc_publisher.specs.declared.publisher.TheConstants.{MAX_LEAD}
use Rattle.pdc_keys.specs.Keys.{number_at, number_or, optional_number}
use Rattle.pdc_keys.specs.declared.limits.TheConstants.{MAX_PORT, MAX_TIME_BASE}
use Rattle.pdc_settings.specs.declared.service.Service.{Service}
use Rattle.pdc_settings.specs.declared.service.TickWhen.{TickWhen}
use Rattle.pdc_settings.specs.declared.service.TickWhen.TheVariants.{Period, Whole}
use Rattle.pdc_life.specs.declared.timing.Timing.{Timing}

abbrev pub id_in : Members → Option ℕ
id_in = number_at (codes "id") 1 MAX_ID

abbrev pub rate_in : Members → Option ℕ
rate_in = number_at (codes "rate") 1 MAX_RATE

-- the nominal frequency of so many hertz
abbrev pub nominal_of : ℕ → Option Nominal
nominal_of n = if nat_eq n 50 then Some Hz50 else if nat_eq n 60 then Some Hz60 else None

abbrev pub nominal_in : Members → Option Nominal
nominal_in members = option_and_then nominal_of (number_at (codes "nominal") 50 60 members)

-- TIME_BASE in a table, which is at least the rate
abbrev pub time_base_in : ℕ → Members → Option ℕ
time_base_in rate = number_at (codes "time_base") rate MAX_TIME_BASE

-- the kind of wait of this name
abbrev pub wait_kind_named : List ℕ → Option WaitKind
wait_kind_named name = if pointwise nat_eq name (codes "relative") then Some Relative else if pointwise nat_eq name (codes "absolute") then Some Absolute else None

-- the kind of wait that a value is: relative where it is left out
abbrev pub wait_kind_of : Option Data → Option WaitKind
wait_kind_of None = Some Relative
wait_kind_of (Some value) = option_and_then wait_kind_named (as_str value)

abbrev pub wait_kind_in : Members → Option WaitKind
wait_kind_in members = wait_kind_of (get_member (codes "wait_kind") members)

-- the most whole milliseconds that are fewer than a frame lasts, at so many frames in a second
abbrev pub most_tick_ms : ℕ → ℕ
most_tick_ms rate = 999 / rate

-- Worked: at 240 frames in a second a frame lasts more than four milliseconds, at 50 twenty.
pub at_240 : most_tick_ms 240 ≡ 4
at_240 = refl

pub at_50 : most_tick_ms 50 ≡ 19
at_50 = refl

-- how many milliseconds behind each instant it ticks, where the key is there
abbrev pub tick_ms_of : (rate : ℕ) → Members → Option (Option ℕ)
tick_ms_of rate members = optional_number 0 (most_tick_ms rate) (get_member (codes "tick_ms") members)

abbrev pub tick_ms_in : Members → Option (Option ℕ)
tick_ms_in members = option_and_then (λ rate. tick_ms_of rate members) (rate_in members)

-- when it ticks, by this name
abbrev pub tick_named : List ℕ → Option TickWhen
tick_named name = if pointwise nat_eq name (codes "period") then Some Period else if pointwise nat_eq name (codes "whole") then Some Whole else None

-- when it ticks, as a value says: once a period where it is left out
abbrev pub tick_of : Option Data → Option TickWhen
tick_of None = Some Period
tick_of (Some value) = option_and_then tick_named (as_str value)

abbrev pub tick_in : Members → Option TickWhen
tick_in members = tick_of (get_member (codes "tick") members)

-- the settings say this of the output
pub record IsOutput (members : Members) (output : Output) : Type 0 where
  pub id : id_in members ≡ Some output.id.value
  pub rate : rate_in members ≡ Some output.rate
  pub nominal : nominal_in members ≡ Some output.nominal
  pub time_base : time_base_in output.rate members ≡ Some output.time_base

-- the settings say this of how long instants are held
pub record IsTiming (members : Members) (timing : Timing) : Type 0 where
  pub wait : number_at (codes "wait") 1 MAX_WAIT members ≡ Some timing.wait
  pub wait_kind : wait_kind_in members ≡ Some timing.wait_kind
  pub window : number_at (codes "window") MIN_WINDOW MAX_WINDOW members ≡ Some timing.window
  pub ahead : number_at (codes "ahead") 0 MAX_AHEAD members ≡ Some timing.ahead

-- the settings say this of what the program does with the rows and frames
pub record IsService (members : Members) (service : Service) : Type 0 where
  pub lead : number_or 0 0 MAX_LEAD (get_member (codes "lead") members) ≡ Some service.lead
  pub layout_every : number_at (codes "layout_every") 1 MAX_PORT members ≡ Some service.layout_every
  pub out_port : number_at (codes "out_port") 1 MAX_PORT members ≡ Some service.out_port
  pub session_port : number_at (codes "session_port") 1 MAX_PORT members ≡ Some service.session_port
  pub tick : tick_in members ≡ Some service.tick
  pub tick_ms : tick_ms_in members ≡ Some service.tick_ms

-- each of these keys is there, and in its range
abbrev pub has_output : Members → Bool
has_output members =
    is_some (id_in members) && (is_some (rate_in members) && (is_some (nominal_in members) && is_some (option_and_then (λ rate. time_base_in rate members) (rate_in members))))

abbrev pub has_timing : Members → Bool
has_timing members =
    is_some (number_at (codes "wait") 1 MAX_WAIT members) && (is_some (wait_kind_in members)
    && (is_some (number_at (codes "window") MIN_WINDOW MAX_WINDOW members) && is_some (number_at (codes "ahead") 0 MAX_AHEAD members)))

abbrev pub has_service : Members → Bool
has_service members =
    is_some (number_or 0 0 MAX_LEAD (get_member (codes "lead") members)) && (is_some (number_at (codes "layout_every") 1 MAX_PORT members)
    && (is_some (number_at (codes "out_port") 1 MAX_PORT members) && (is_some (number_at (codes "session_port") 1 MAX_PORT members) && (is_some (tick_in members) && is_some (tick_ms_in members)))))

abbrev pub has_common : Members → Bool
has_common members = has_output members && (has_timing members && has_service members)
