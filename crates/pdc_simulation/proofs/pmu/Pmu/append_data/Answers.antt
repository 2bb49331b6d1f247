use Rattle.std.proofs.Common.{◌≡◌, ℕ, List, ◌++◌, ◌∙◌, ap, subst}
use Rattle.std.specs.Prelude.{OnOk}
use Rattle.pdc_frame.specs.Frame.{Fields, spelling_of}
use Rattle.pdc_frame.specs.declared.frame.Kind.TheVariants.{DataFrame}
use Rattle.pdc_block.specs.Block.{bytes_of_words}
use Rattle.pdc_frame.specs.Tag.{tag_of}
use Rattle.pdc_simulation.specs.Pmu.{PmuView, data_fields}
use Rattle.pdc_simulation.proofs.pmu.Pmu.append_data.Goals as goal

pub returns-clause-ok : goal.returns-clause-ok
returns-clause-ok g c =
    let id : c.self.inside.id.value ≡ c.args.self.now.id = ap (λ (p : PmuView). p.id) c.self.view_is in
    let tag : c.tag_of-soc.result ≡ tag_of c.args.instant c.args.self.now.time_base c.args.self.now.rate =
    c.tag_of-soc.ensures.value ∙ ap (λ n. tag_of c.args.instant c.self.inside.time_base n) c.from.ensures ∙ ap (λ (p : PmuView). tag_of c.args.instant p.time_base p.rate) c.self.view_is in
    let payload : c.as_slice.result.now ≡ bytes_of_words c.args.words.now = c.as_slice.ensures.value ∙ c.append_words.ensures.content ∙ ap (λ (bytes : List ℕ). bytes ++ bytes_of_words c.args.words.now) c.new-payload.ensures in
    let same : record { kind = DataFrame; version = 2; id = c.self.inside.id.value; soc = c.tag_of-soc.result.0; quality = 0; frac = c.tag_of-soc.result.1; payload = c.as_slice.result.now } ≡ data_fields c.args.self.now c.args.instant c.args.words.now =
    (λ i. record { kind = DataFrame; version = 2; id = id i; soc = (tag i).0; quality = 0; frac = (tag i).1; payload = payload i }) in
    subst (λ (f : Fields). OnOk c.write_frame.result (g.B.Buffer.content c.write_frame.new.out ≡ g.B.Buffer.content c.args.out.now ++ spelling_of f)) same c.write_frame.ensures.ok
