use Rattle.std.proofs.Common.{◌≡◌, ℕ, ◌+◌, ◌≤◌, List, ◌++◌, length, map, subst}
use Rattle.std.specs.Prelude.{IsOk, OnErr, OnOk, Ok, Err}
use Rattle.pdc_row.specs.pdc_frame.Frame.{Fields, IsFrame, spelling_of}
use Rattle.pdc_row.specs.pdc_cfg.Section.{fields_of_view, fields_of_section}
use Rattle.pdc_row.specs.pdc_cfg.Config.{IsConfig, config_fields_of}
use Rattle.std.specs.declared.alloc.AllocError.{AllocError}
use Rattle.std.specs.declared.result.Result.{Result}
use Rattle.pdc_row.proofs.Layouts.{same_fields, same_payload}
use Rattle.pdc_row.proofs.layout_frame.append_layout.Goals as goal

pub returns-clause-ok : goal.returns-clause-ok
returns-clause-ok g c =
    let config = c.config_of-config in
    let same = same_fields c.args.output.now c.args.start c.args.change c.args.soc (fields_of_section c.own_section-own.result) (map fields_of_view c.args.sections.now) (config_fields_of config.result)
    config.ensures.flags config.ensures.time_base config.ensures.sections c.own_section-own.ensures.bytes config.ensures.rate in
    subst (λ (f : Fields). OnOk c.write_config.result (g.B.Buffer.content c.write_config.new.out ≡ g.B.Buffer.content c.args.out.now ++ spelling_of f)) same c.write_config.ensures.ok

pub returns-clause-frame : goal.returns-clause-frame
returns-clause-frame g c =
    let config = c.config_of-config in
    let same = same_fields c.args.output.now c.args.start c.args.change c.args.soc (fields_of_section c.own_section-own.result) (map fields_of_view c.args.sections.now) (config_fields_of config.result)
    config.ensures.flags config.ensures.time_base config.ensures.sections c.own_section-own.ensures.bytes config.ensures.rate in
    subst (λ (f : Fields). IsFrame (spelling_of f) f) same c.write_config.ensures.frame

pub returns-clause-room : goal.returns-clause-room
returns-clause-room g c =
    let config = c.config_of-config in
    let same = same_fields c.args.output.now c.args.start c.args.change c.args.soc (fields_of_section c.own_section-own.result) (map fields_of_view c.args.sections.now) (config_fields_of config.result)
    config.ensures.flags config.ensures.time_base config.ensures.sections c.own_section-own.ensures.bytes config.ensures.rate in
    subst (λ (f : Fields). length (g.B.Buffer.content c.args.out.now) + length (spelling_of f) ≤ g.B.Buffer.capacity c.args.out.now → IsOk c.write_config.result) same c.write_config.ensures.room

pub returns-clause-in_place : goal.returns-clause-in_place
returns-clause-in_place g c =
    let config = c.config_of-config in
    let same = same_fields c.args.output.now c.args.start c.args.change c.args.soc (fields_of_section c.own_section-own.result) (map fields_of_view c.args.sections.now) (config_fields_of config.result)
    config.ensures.flags config.ensures.time_base config.ensures.sections c.own_section-own.ensures.bytes config.ensures.rate in
    subst (λ (f : Fields). length (g.B.Buffer.content c.args.out.now) + length (spelling_of f) ≤ g.B.Buffer.capacity c.args.out.now → g.B.Buffer.capacity c.write_config.new.out ≡ g.B.Buffer.capacity c.args.out.now) same c.write_config.ensures.in_place

where_ok : {P Q : Type 0} (r : Result (Unit {0}) AllocError) → (P → Q) → OnOk r P → OnOk r Q
where_ok (Ok u) f h = f h
where_ok (Err e) f h = h

pub returns-clause-config : goal.returns-clause-config
returns-clause-config g c =
    let config = c.config_of-config in
    let own = fields_of_section c.own_section-own.result in
    let same = same_payload c.args.output.now c.args.start c.args.change own (map fields_of_view c.args.sections.now) (config_fields_of config.result)
    config.ensures.flags config.ensures.time_base config.ensures.sections c.own_section-own.ensures.bytes config.ensures.rate in
    where_ok c.write_config.result (λ h. record {
      config = config_fields_of config.result;
      own = own;
      spelled = subst (λ (t : List ℕ). IsConfig t (config_fields_of config.result)) same h;
      itself = c.own_section-own.ensures.bytes;
      sections = config.ensures.sections;
      time_base = config.ensures.time_base;
      rate = config.ensures.rate;
    }) c.write_config.ensures.config

pub returns-clause-refused : goal.returns-clause-refused
returns-clause-refused g c =
    let config = c.config_of-config in
    let same = same_fields c.args.output.now c.args.start c.args.change c.args.soc (fields_of_section c.own_section-own.result) (map fields_of_view c.args.sections.now) (config_fields_of config.result)
    config.ensures.flags config.ensures.time_base config.ensures.sections c.own_section-own.ensures.bytes config.ensures.rate in
    subst (λ (f : Fields). OnErr c.write_config.result (g.B.Buffer.refused c.write_config.new.out (length f.payload + 16))) same c.write_config.ensures.refused
