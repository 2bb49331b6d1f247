use Rattle.std.proofs.Common.{◌++◌, ◌∙◌, ap, map}
use Rattle.std.proofs.lemmas.List.{append_assoc}
use Rattle.std.specs.Prelude.{codes, is_some}
use Rattle.toml.specs.Data.{get_member}
use Rattle.toml.specs.View.{items_view, table_view}
use Rattle.pdc_keys.specs.Keys.{items_at}
use Rattle.pdc_keys.specs.Known.{merged_node_keys, merged_pmu_keys, pmu_keys, top_keys}
use Rattle.pdc_keys.specs.Table.{names_in}
use Rattle.pdc_keys.specs.Unknown.{keys_of, known_of_pmu, unknown_among, unknown_fields, unknown_from}
use Rattle.pdc_keys.specs.declared.owner.KeyTable.TheVariants as In
use Rattle.pdc_keys.specs.declared.owner.KeyTable.TheVariants.{MergedNode}
use Rattle.pdc_keys.specs.declared.unknown.TableName.TheVariants.{Node, Pmu, Top}
use Rattle.pdc_keys.proofs.Tables.{names_chosen}
use Rattle.pdc_keys.proofs.finding.unknown_keys_in.Goals as goal

-- those at the top, those of the nodes and those of the PMUs, each found behind the ones before
pub returns-clause-found : goal.returns-clause-found
returns-clause-found c =
    c.in_ok-push_pmus.ensures.found
    ∙ ap (λ before. before ++ unknown_from Pmu (names_in c.kind_of_pmu.result c.all_keys-keys.result.now) 1 (items_view c.pmus_of.result.now))
    (c.in_ok-push_nodes.ensures.found
    ∙ ap (λ before. before ++ unknown_from Node (names_in MergedNode c.all_keys-keys.result.now) 1 (items_view c.nodes_of.result.now))
    (c.in_ok-push_keys.ensures.found
    ∙ ap (λ items. map unknown_fields items ++ unknown_among Top (names_in In.Top c.all_keys-keys.result.now) (keys_of (table_view c.args.table.now))) c.new-found.ensures.items
    ∙ ap (λ known. unknown_among Top known (keys_of (table_view c.args.table.now))) c.all_keys-keys.ensures.top)
    ∙ ap (λ known. unknown_among Top top_keys (keys_of (table_view c.args.table.now)) ++ unknown_from Node known 1 (items_view c.nodes_of.result.now)) c.all_keys-keys.ensures.merged_node
    ∙ ap (λ values. unknown_among Top top_keys (keys_of (table_view c.args.table.now)) ++ unknown_from Node merged_node_keys 1 values) c.nodes_of.ensures)
    ∙ ap (λ known. unknown_among Top top_keys (keys_of (table_view c.args.table.now)) ++ unknown_from Node merged_node_keys 1 (items_at (codes "node") (table_view c.args.table.now))
    ++ unknown_from Pmu known 1 (items_view c.pmus_of.result.now))
    (ap (λ kind. names_in kind c.all_keys-keys.result.now) c.kind_of_pmu.ensures
    ∙ names_chosen (is_some (get_member (codes "node") (table_view c.args.table.now))) c.all_keys-keys.result.now pmu_keys merged_pmu_keys c.all_keys-keys.ensures.merged_pmu c.all_keys-keys.ensures.pmu)
    ∙ ap (λ values. unknown_among Top top_keys (keys_of (table_view c.args.table.now)) ++ unknown_from Node merged_node_keys 1 (items_at (codes "node") (table_view c.args.table.now))
    ++ unknown_from Pmu (known_of_pmu (table_view c.args.table.now)) 1 values) c.pmus_of.ensures
    ∙ append_assoc (unknown_among Top top_keys (keys_of (table_view c.args.table.now))) (unknown_from Node merged_node_keys 1 (items_at (codes "node") (table_view c.args.table.now)))
    (unknown_from Pmu (known_of_pmu (table_view c.args.table.now)) 1 (items_at (codes "pmu") (table_view c.args.table.now)))
