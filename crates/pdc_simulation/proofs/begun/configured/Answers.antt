use Rattle.std.proofs.Common.{◌≡◌, ◌+◌, ◌++◌, ◌∙◌, ℕ, List, ap, refl, subst, sym}
use Rattle.std.specs.Prelude.{Option, IsSomeAnd, true}
use Rattle.pdc_cfg.specs.Section.{SectionFields, fields_of_view}
use Rattle.pdc_cfg.specs.Shape.{word_count_of}
use Rattle.pdc_cfg.specs.declared.shape.Shape.{Shape}
use Rattle.pdc_simulation.specs.Pmu.{PmuView, after_config, config_of, is_later, new_pmu}
use Rattle.pdc_simulation.specs.Sent.{Run, run_of, word_count}
use Rattle.pdc_simulation.specs.declared.begun.TheConstants.{TIME_BASE}
use Rattle.pdc_simulation.proofs.begun.configured.Goals as goal

pub returns-in-Ok-clause-ok : goal.returns-in-Ok-clause-ok
returns-in-Ok-clause-ok c =
    let run : Run = run_of c.args.simulated.now c.args.first in
    let s : SectionFields = fields_of_view c.args.section.now in
    let start : PmuView = new_pmu run.id run.rate TIME_BASE in
    let left : c.set_configuration.new.self ≡ after_config start s = c.in-Ok.ensures.sent ∙ ap (λ (p : PmuView). after_config p s) c.new-pmu.ensures in
    let fits : word_count_of c.args.section.now.shape ≡ word_count run.is_grid = sym c.word_count.ensures.value ∙ c.if-word_count.false ∙ c.word_count-2.ensures in
    record {
      stands = record {
        same_id = ap (λ (p : PmuView). p.id) left;
        same_rate = ap (λ (p : PmuView). p.rate) left;
        same_base = ap (λ (p : PmuView). p.time_base) left;
        fits = subst (λ (shape : Option Shape). IsSomeAnd shape (λ shape. word_count_of shape ≡ word_count run.is_grid)) (sym (ap (λ (p : PmuView). p.shape) left)) fits;
        later = subst (λ (last : Option ℕ). is_later last (run.first + 0) ≡ true) (sym (ap (λ (p : PmuView). p.last) left)) refl;
      };
      configured = record {
        section = s;
        fits = fits;
        is_config = c.in-Ok.ensures.ok
            ∙ ap (λ (xs : List ℕ). xs ++ config_of c.new-pmu.result c.second_of.result s) c.new-frame.ensures.items
            ∙ ap (λ (p : PmuView). config_of p c.second_of.result s) c.new-pmu.ensures
            ∙ ap (λ (soc : ℕ). config_of start soc s) c.second_of.ensures;
      };
    }
