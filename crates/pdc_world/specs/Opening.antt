-- How a world begins, and why it does not.
use Rattle.std.specs.Prelude.{◌&&◌, ◌-◌, ◌^◌, ◌≡◌, ◌≤◌, Bool, nat_lt}
use Rattle.pdc_mark.specs.{declared.stored.Stored.{Stored}, Stored.{with_next_start}}
use Rattle.pdc_life.specs.{declared.given.Settings.{Settings}, declared.merging.MergerSettings.{MergerSettings}}
use Rattle.pdc_history.specs.{Agree.{MayBegin, SettingsAgree}, World.{first_mark, Who, World}}
use Rattle.pdc_history.specs.{declared.event_fault.Fault.{Fault}, declared.event_fault.Premise.TheVariants.{OneTable}, declared.event_fault.WorldFault.{WorldFault}}
use Rattle.pdc_world.specs.declared.opening.Leads.{Leads}
use Rattle.pdc_history.specs.declared.event_fault.Fault.TheVariants as fault

-- The world of these settings and leads, over marks that store this. Each first life begins with the next start, which is then stored.
abbrev pub world_of : (a b : Settings) → MergerSettings → Leads → (of_a of_b of_m : Stored) → World
world_of a b m leads of_a of_b of_m = record {
  a = record { settings = a; lead = leads.a; mark = with_next_start of_a };
  b = record { settings = b; lead = leads.b; mark = with_next_start of_b };
  m = record { settings = m; lead = leads.m; mark = with_next_start of_m };
}

-- each of these marks has a next start
abbrev pub are_left : (of_a of_b of_m : Stored) → Bool
are_left of_a of_b of_m = nat_lt of_a.start (2 ^ 32 - 1) && nat_lt of_b.start (2 ^ 32 - 1) && nat_lt of_m.start (2 ^ 32 - 1)

-- a first life has no start number left
pub record HasNoStart (W : World) : Type 0 where
  pub who : Who
  pub past : 2 ^ 32 ≤ (first_mark W who).start

-- Why a world does not begin, the first cause that holds: its settings do not agree; they do, and a start number is used up; and it
-- may begin, where memory is wanting.
abbrev pub IsWhyNot : World → Fault → Type 0
IsWhyNot W (fault.PremiseBroken OneTable) = SettingsAgree W → ⊥
IsWhyNot W fault.StartsUsedUp = SettingsAgree W × HasNoStart W
IsWhyNot W fault.NoMemory = MayBegin W
IsWhyNot W f = ⊥

-- No event is asked yet.
pub record IsOpeningFault (W : World) (fault : WorldFault) : Type 0 where
  pub at : fault.at ≡ 0
  pub why : IsWhyNot W fault.fault
