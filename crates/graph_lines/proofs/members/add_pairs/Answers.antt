use Rattle.std.proofs.Common.{◌∷◌, is_some, refl, ap, ℕ, List}
use Rattle.rdf_model.specs.Terms.{Text}
use Rattle.rdf_term.specs.Seen.{lent_term}
use Rattle.trie_node.specs.Sets.{edge_set}
use Rattle.trie_context.specs.Rows.{set_of}
use Rattle.graph_view.specs.Read.{has_id}
use Rattle.graph_lines.specs.Walks.{behind}
use Rattle.graph_lines.proofs.EdgeWalks.{walk_none, walk_done, walk_there, walk_next}
use Rattle.graph_lines.proofs.MemberLemmas.{added_as, text_under, map_key_known, map_rest_known, edge_some, edge_long}
use Rattle.graph_lines.proofs.members.add_pairs.Goals as goal

pub loop-key-init : goal.loop-key-init
loop-key-init c =
    walk_none c.args.pairs.now (edge_set (set_of c.args.all.tables.now 1)) (behind c.args.style c.args.all.dict.now c.args.before.now) c.args.texts.now.items c.walk-walk.result c.walk-walk.ensures.entries

pub returns : goal.returns
returns c =
    walk_done c.args.pairs.now (edge_set (set_of c.args.all.tables.now 1)) (behind c.args.style c.args.all.dict.now c.args.before.now) c.args.texts.now.items c.loop-key.walk c.loop-key.texts.items
    (c.next.ensures.end (ap is_some c.in_default.is)) c.loop-key.invariant

pub term-requires : goal.term-requires
term-requires c =
    let low = set_of c.args.all.tables.now 1 in
    let text = behind c.args.style c.args.all.dict.now c.args.before.now in
    let at = walk_there c.args.pairs.now (edge_set low) text c.args.texts.now.items c.loop-key.walk c.next.new.self _ c.in-Some.ensures.next c.loop-key.texts.items c.loop-key.invariant in
    map_key_known c.args.pairs.now (edge_set low) (has_id c.args.all.dict.now) c.requires.known c.in-Some.key.0 c.in-Some.edge at
    (edge_some c.args.all.tables.now c.args.all.dict.now c.args.all.known c.in-Some.edge (c.requires.there c.in-Some.key.0 c.in-Some.edge at))

pub add_edge-requires-clause-there : goal.add_edge-requires-clause-there
add_edge-requires-clause-there c =
    let low = set_of c.args.all.tables.now 1 in
    let text = behind c.args.style c.args.all.dict.now c.args.before.now in
    let at = walk_there c.args.pairs.now (edge_set low) text c.args.texts.now.items c.loop-key.walk c.next.new.self _ c.in-Some.ensures.next c.loop-key.texts.items c.loop-key.invariant in
    c.requires.there c.in-Some.key.0 c.in-Some.edge at

pub add_edge-requires-clause-known : goal.add_edge-requires-clause-known
add_edge-requires-clause-known c =
    let low = set_of c.args.all.tables.now 1 in
    let text = behind c.args.style c.args.all.dict.now c.args.before.now in
    let at = walk_there c.args.pairs.now (edge_set low) text c.args.texts.now.items c.loop-key.walk c.next.new.self _ c.in-Some.ensures.next c.loop-key.texts.items c.loop-key.invariant in
    map_rest_known c.args.pairs.now (edge_set low) (has_id c.args.all.dict.now) c.requires.known c.in-Some.key.0 c.in-Some.edge at

pub loop-key-preserved : goal.loop-key-preserved
loop-key-preserved c =
    let terms = c.args.all.dict.now in
    let k = c.in-Some.key.0 in
    let low = set_of c.args.all.tables.now 1 in
    let style = c.args.style in
    let text : List ℕ → Text = behind style terms c.args.before.now in
    let at = walk_there c.args.pairs.now (edge_set low) text c.args.texts.now.items c.loop-key.walk c.next.new.self _ c.in-Some.ensures.next c.loop-key.texts.items c.loop-key.invariant in
    let there = c.requires.there k c.in-Some.edge at in
    walk_next c.args.pairs.now (edge_set low) text c.args.texts.now.items c.loop-key.walk c.next.new.self _ c.in-Some.ensures.next c.loop-key.texts.items c.loop-key.invariant
    (λ t. text (k ∷ t)) (λ _. refl) c.add_edge.new.texts.items
    (added_as (behind style terms c.in_ok-word.word) (λ t. text (k ∷ t)) (edge_set low c.in-Some.edge)
    (λ t e. text_under style terms c.args.before.now k (lent_term c.term.result) c.in_ok-word.word c.term.ensures c.in_ok-word.ensures t (edge_long c.args.all.tables.now c.args.all.dict.now c.args.all.known c.in-Some.edge there t e))
    c.loop-key.texts.items c.add_edge.new.texts.items c.in_ok-add_edge.ensures)
