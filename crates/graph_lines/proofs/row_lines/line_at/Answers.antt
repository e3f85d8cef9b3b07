use Rattle.std.proofs.Common.{◌≡◌, ◌++◌, ℕ, List, IfOk, subst, codes, decimal}
use Rattle.rdf_model.specs.Terms.{Text}
use Rattle.trie_context.specs.Rows.{set_of}
use Rattle.graph_shape.specs.GraphShapes.{depth_name, tabbed}
use Rattle.graph_view.specs.ReadLaws.{one_known}
use Rattle.graph_lines.proofs.RowLemmas.{row_members}
use Rattle.graph_lines.proofs.row_lines.line_at.Goals as goal

pub returns : goal.returns
returns c =
    let members = row_members c.args.all.dict.now (one_known c.args.all.tables.now c.args.all.dict.now c.args.all.known) (set_of c.args.all.tables.now c.args.depth c.args.row) c.requires.known c.new-members.result.items c.add_members.new.members.items c.new-members.ensures.items c.in_ok-add_members.ensures in
    subst (λ (p : ℕ × List Text). IfOk c.line_of.result (λ line. line ≡ depth_name c.args.depth ++ codes "\t" ++ decimal p.0 ++ tabbed p.1)) (λ i. (c.count.ensures i, members i)) c.line_of.ensures
