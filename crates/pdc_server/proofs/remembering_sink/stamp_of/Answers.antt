use Rattle.std.proofs.Common.{rules, arith, ◌≡◌, ap, sym, subst, ◌∙◌, get_or}
use Rattle.std.specs.Prelude.{map, drop}
use Rattle.pdc_cfg.specs.Section.{fields_of_view}
use Rattle.pdc_cfg.specs.declared.section.SectionView.{SectionView}
use Rattle.pdc_row.specs.Layout.{own_bytes}
use Rattle.pdc_server.proofs.Layouts.{first_of_map, where_some}
use Rattle.pdc_server.proofs.remembering_sink.stamp_of.Goals as goal

pub returns : goal.returns
returns c =
    let sections = c.as_slice-sections.result.now in
    let own = c.index-sections-0.result in
    where_some {P = λ stamp. (get_or sections 0 own).bytes.now ≡ own_bytes c.args.output.now.id.value c.args.output.now.nominal stamp.start stamp.change} c.own_stamp.result (λ stamp is. record {
      nominal = c.args.output.now.nominal;
      itself = fields_of_view own;
      others = map fields_of_view (drop 1 sections);
      first = ap (map fields_of_view) (sym c.as_slice-sections.ensures.value) ∙ first_of_map fields_of_view sections own (search (rules, arith)) c.index-sections-0.is;
      own = subst (λ (view : SectionView). view.bytes.now ≡ own_bytes c.args.output.now.id.value c.args.output.now.nominal stamp.start stamp.change) (sym c.index-sections-0.is) is;
    })
    c.own_stamp.ensures
