use Rattle.std.proofs.Common.{inr, refl, [], ◌∷◌, drop, length, length-drop, List, ℕ, arith}
use Rattle.pdc_cfg.specs.Section.{fields_of_view}
use Rattle.pdc_cfg.proofs.Sections.{Begins-push}
use Rattle.pdc_cfg.proofs.section_reading.read_only_section.Goals as goal

pub returns-then-section-body-clause-fault : goal.returns-then-section-body-clause-fault
returns-then-section-body-clause-fault c =
    let body : List ℕ = c.args.body.now in
    let section = c.in_ok-section.section in
    let len : ℕ = length section.bytes.now in
    inr (record {
      sections = fields_of_view section ∷ [];
      rest = drop len body;
      begins = Begins-push body [] body (fields_of_view section) (record { whole = tt; parts = refl }) section.whole c.in_ok-section.ensures.front;
      all = refl;
      more = omega (arith, length-drop len body, c.if-section-body.true);
    })
