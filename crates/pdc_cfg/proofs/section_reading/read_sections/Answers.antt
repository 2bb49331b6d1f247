use Rattle.std.proofs.Common.{◌≡◌, ℕ, ◌+◌, ◌-◌, ◌∷◌, [], ◌++◌, List, take, drop, length-drop, length, map, sym, ap, subst, ◌∙◌, arith}
use Rattle.std.proofs.lemmas.List.{map_push, drop-drop, take_all}
use Rattle.pdc_cfg.specs.Section.{SectionFields, fields_of_view}
use Rattle.pdc_cfg.specs.Config.{Begins}
use Rattle.pdc_cfg.proofs.Sections.{Begins-push}
use Rattle.pdc_cfg.proofs.section_reading.read_sections.Goals as goal

pub loop-preserved : goal.loop-preserved
loop-preserved c =
    let body : List ℕ = c.args.body.now in
    let section = c.in_ok-section.section in
    let rest : List ℕ = drop c.loop.place body in
    let whole : take (length body - c.loop.place) rest ≡ rest = take_all (length body - c.loop.place) rest (omega (arith, length-drop c.loop.place body)) in
    let front : section.bytes.now ≡ take (length section.bytes.now) rest = c.in_ok-section.ensures.front ∙ ap (take (length section.bytes.now)) whole in
    let more : Begins body (map fields_of_view c.loop.sections.items ++ fields_of_view section ∷ []) (drop (length section.bytes.now) rest) =
    Begins-push body (map fields_of_view c.loop.sections.items) rest (fields_of_view section) c.loop.invariant.begins section.whole front in
    let pushed : map fields_of_view c.push.new.self.items ≡ map fields_of_view c.loop.sections.items ++ fields_of_view section ∷ [] = ap (map fields_of_view) c.push.ensures.items ∙ map_push fields_of_view c.loop.sections.items section in
    let behind : drop (length section.bytes.now) rest ≡ drop (c.loop.place + length section.bytes.now) body = drop-drop (length section.bytes.now) c.loop.place body in
    record {
      begins = subst (λ (t : List ℕ). Begins body (map fields_of_view c.push.new.self.items) t) behind (subst (λ (s : List SectionFields). Begins body s (drop (length section.bytes.now) rest)) (sym pushed) more);
      count = c.push.ensures.len ∙ ap (λ (n : ℕ). n + 1) c.loop.invariant.count;
      within = omega (arith, c.in_ok-section.ensures.within, ap length whole, length-drop c.loop.place body, c.loop.invariant.within);
    }
