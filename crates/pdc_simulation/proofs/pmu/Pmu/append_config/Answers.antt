use Rattle.std.proofs.Common.{◌≡◌, ◌+◌, ◌≤◌, [], ◌∷◌, ◌++◌, ◌∙◌, ap, length, subst}
use Rattle.std.specs.Prelude.{IsOk, OnOk}
use Rattle.pdc_frame.specs.Frame.{Fields, IsFrame, spelling_of}
use Rattle.pdc_frame.specs.declared.frame.Kind.TheVariants.{Cfg2}
use Rattle.pdc_cfg.specs.Config.{ConfigFields, IsConfig, config_fields_of, config_frame_of, payload_of}
use Rattle.pdc_cfg.specs.Section.{SectionFields, fields_of_view}
use Rattle.pdc_simulation.specs.Pmu.{PmuView, next_config}
use Rattle.pdc_simulation.specs.Renamed.{renamed}
use Rattle.pdc_simulation.proofs.Configs.{same_config}
use Rattle.pdc_simulation.proofs.pmu.Pmu.append_config.Goals as goal
use Rattle.pdc_simulation.proofs.pmu.Pmu.append_config.Given as given

-- what is written is the next configuration, and its frame
next : (g : given.Over) (c : goal.After-write_config g) → config_fields_of c.config_of-config.result ≡ next_config c.args.self.now (fields_of_view c.args.section.now)
next g c =
    let s : SectionFields = fields_of_view c.args.section.now in
    same_config c.args.self.now s (config_fields_of c.config_of-config.result) c.config_of-config.ensures.flags c.config_of-config.ensures.time_base
    (c.config_of-config.ensures.sections ∙ ap (λ (t : SectionFields). t ∷ []) (c.renamed-next.ensures ∙ ap (λ (p : PmuView). renamed p.id (p.count + 1) s) c.self.view_is))
    c.config_of-config.ensures.rate

same : (g : given.Over) (c : goal.After-write_config g) → config_frame_of Cfg2 c.self.inside.id.value c.args.soc (config_fields_of c.config_of-config.result)
    ≡ config_frame_of Cfg2 c.args.self.now.id c.args.soc (next_config c.args.self.now (fields_of_view c.args.section.now))
same g c =
    ap (config_frame_of Cfg2 c.self.inside.id.value c.args.soc) (next g c) ∙ ap (λ (p : PmuView). config_frame_of Cfg2 p.id c.args.soc (next_config c.args.self.now (fields_of_view c.args.section.now))) c.self.view_is

pub returns-clause-ok : goal.returns-clause-ok
returns-clause-ok g c =
    subst (λ (f : Fields). OnOk c.write_config.result (g.B.Buffer.content c.write_config.new.out ≡ g.B.Buffer.content c.args.out.now ++ spelling_of f)) (same g c) c.write_config.ensures.ok

pub returns-clause-frame : goal.returns-clause-frame
returns-clause-frame g c = subst (λ (f : Fields). IsFrame (spelling_of f) f) (same g c) c.write_config.ensures.frame

pub returns-clause-room : goal.returns-clause-room
returns-clause-room g c =
    subst (λ (f : Fields). length (g.B.Buffer.content c.args.out.now) + length (spelling_of f) ≤ g.B.Buffer.capacity c.args.out.now → IsOk c.write_config.result) (same g c) c.write_config.ensures.room

pub returns-clause-config : goal.returns-clause-config
returns-clause-config g c = subst (λ (d : ConfigFields). OnOk c.write_config.result (IsConfig (payload_of d) d)) (next g c) c.write_config.ensures.config
