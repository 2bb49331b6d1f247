-- Which configurations are left out for their count.
use Rattle.std.specs.Prelude.{◌≡◌, ◌||◌, ℕ, Bool, false, true, List, [], ◌∷◌, nat_lt}
use Rattle.pdc_cfg.specs.Config.{ConfigFields, IsConfig}
use Rattle.pdc_cfg.specs.Section.{SectionFields}
use Rattle.pdc_frame.specs.Frame.{Fields, IsFrame}
use Rattle.pdc_frame.specs.declared.frame.Kind.TheVariants.{Cfg2}

-- some section has a configuration count (CFGCNT, C37.118.2-2011, table 9) above the most
abbrev pub has_above : (most : ℕ) → List SectionFields → Bool
has_above most [] = false
has_above most (s ∷ sections) = nat_lt most s.count || has_above most sections

-- The bytes are a CFG-2 frame, of which some section has a count above the most.
pub record IsAbove (most : ℕ) (bytes : List ℕ) : Type 0 where
  pub fields : Fields
  pub is_frame : IsFrame bytes fields
  pub kind : fields.kind ≡ Cfg2
  pub config : ConfigFields
  pub is_config : IsConfig fields.payload config
  pub above : has_above most config.sections ≡ true
