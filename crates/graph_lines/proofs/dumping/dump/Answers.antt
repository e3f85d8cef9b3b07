use Rattle.std.proofs.Common.{[], ◌∙◌, ap, refl}
use Rattle.std.proofs.lemmas.Result.{IfOk-weaker}
use Rattle.rdf_model.specs.Texts.{dump_line}
use Rattle.rdf_model.specs.Graph.{triples_total, exact_triples}
use Rattle.rdf_model.specs.Sorting.{in_order}
use Rattle.rdf_model.specs.MemberLaws.{members_in_order}
use Rattle.graph_view.specs.ReadLaws.{one_known, triples_known}
use Rattle.graph_view.specs.Views.{graph_in, triples_in}
use Rattle.graph_lines.proofs.DumpLemmas.{lines_read}
use Rattle.graph_lines.proofs.dumping.dump.Goals as goal

pub returns : goal.returns
returns c =
    let v = c.args.graph in
    let terms = v.all.dict.now in
    let texts = lines_read terms (one_known v.all.tables.now terms v.all.known) (triples_in v) (triples_known v.all.tables.now terms v.root.now v.known) [] c.new-texts.result.items c.add_lines.new.lines.items refl c.new-texts.ensures.items c.in_ok-add_lines.ensures in
    IfOk-weaker c.sorted_lines.result _ _ (λ lines order. order ∙ ap in_order texts.2 ∙ members_in_order triples_total exact_triples dump_line (graph_in v) texts.0 texts.1) c.sorted_lines.ensures
