-- Sources of which nothing came yet.
use Rattle.std.specs.List.{AllByRecursion}
use Rattle.std.specs.Prelude.{List, []}
use Rattle.pdc_ports.specs.Heard.{Heard}

-- none of these sources said anything yet
abbrev pub AreSilent : {S : Type 0} (told : S → List Heard → Type 0) → List S → Type 0
AreSilent told sources = ∥ AllByRecursion (λ source. told source []) sources ∥₁
