use Rattle.std.proofs.Common.{[], ◌∷◌, ◌++◌, sym, ap, subst, ◌∙◌}
use Rattle.rdf_model.specs.Terms.{Text}
use Rattle.trie_depth.specs.Tuples.{pair_tuple}
use Rattle.trie_node.specs.Sets.{set_over, map_at}
use Rattle.trie_context.specs.Rows.{set_of}
use Rattle.trie_context.specs.NodeLaws.{node_set_is}
use Rattle.tuple_image.specs.TupleImages.{IsOver}
use Rattle.graph_view.specs.Read.{has_id}
use Rattle.graph_lines.specs.Walks.{AddsTexts, behind}
use Rattle.graph_lines.proofs.MemberLemmas.{added_single, pair_known, row_node, edge_leads}
use Rattle.graph_lines.proofs.members.add_row_pairs.Goals as goal

pub pair_text-requires-clause-first : goal.pair_text-requires-clause-first
pair_text-requires-clause-first c =
    let t = c.args.all.tables.now in
    let node = row_node t 2 c.args.row c.requires.there c.node.result.now c.node.ensures in
    let is = node_set_is t 1 c.args.row c.node.result.now node ∙ ap (set_over (set_of t 1)) c.in-Single.is in
    (pair_known (has_id c.args.all.dict.now) c.in-Single.pair.0.0 c.in-Single.pair.1.0 (subst (IsOver (has_id c.args.all.dict.now)) is c.requires.known)).0

pub pair_text-requires-clause-second : goal.pair_text-requires-clause-second
pair_text-requires-clause-second c =
    let t = c.args.all.tables.now in
    let node = row_node t 2 c.args.row c.requires.there c.node.result.now c.node.ensures in
    let is = node_set_is t 1 c.args.row c.node.result.now node ∙ ap (set_over (set_of t 1)) c.in-Single.is in
    (pair_known (has_id c.args.all.dict.now) c.in-Single.pair.0.0 c.in-Single.pair.1.0 (subst (IsOver (has_id c.args.all.dict.now)) is c.requires.known)).1

pub add_pairs-requires-clause-there : goal.add_pairs-requires-clause-there
add_pairs-requires-clause-there c k e at =
    let t = c.args.all.tables.now in
    let node = row_node t 2 c.args.row c.requires.there c.node.result.now c.node.ensures in
    edge_leads t c.args.all.dict.now c.args.all.known 1 c.args.row c.node.result.now node 0 c.in-Full.first (ap (λ n. map_at n 0) c.in-Full.is) k e at

pub add_pairs-requires-clause-known : goal.add_pairs-requires-clause-known
add_pairs-requires-clause-known c =
    let t = c.args.all.tables.now in
    let node = row_node t 2 c.args.row c.requires.there c.node.result.now c.node.ensures in
    let is = node_set_is t 1 c.args.row c.node.result.now node ∙ ap (set_over (set_of t 1)) c.in-Full.is in
    subst (IsOver (has_id c.args.all.dict.now)) is c.requires.known

pub returns-in_ok-push-in-Single : goal.returns-in_ok-push-in-Single
returns-in_ok-push-in-Single c =
    let t = c.args.all.tables.now in
    let node = row_node t 2 c.args.row c.requires.there c.node.result.now c.node.ensures in
    let is = node_set_is t 1 c.args.row c.node.result.now node ∙ ap (set_over (set_of t 1)) c.in-Single.is in
    let pushed = c.in_ok-push-in-Single.ensures.items ∙ ap (λ (w : Text). c.args.texts.now.items ++ w ∷ []) c.in_ok-pair_text-in-Single.ensures in
    subst (λ S. AddsTexts (behind c.args.style c.args.all.dict.now c.args.before.now) S c.args.texts.now.items c.push.new.self.items) (sym is)
    (added_single (behind c.args.style c.args.all.dict.now c.args.before.now) (pair_tuple c.in-Single.pair) c.args.texts.now.items c.push.new.self.items pushed)
