use Rattle.std.proofs.Common.{◌≡◌, [], ◌∷◌, ◌++◌, IsSome, IfSome, OnOk, option_map, sym, ap, subst, ◌∙◌}
use Rattle.rdf_model.specs.Terms.{Text}
use Rattle.hypertrie_model.specs.Unions.{union_over}
use Rattle.trie_depth.specs.Tuples.{trip_tuple}
use Rattle.trie_node.specs.Sets.{edge_set}
use Rattle.trie_context.specs.Roots.{root_set}
use Rattle.trie_context.specs.Rows.{row_of, set_of}
use Rattle.trie_context.specs.NodeLaws.{node_set_is}
use Rattle.trie_view.specs.Places.{IsRootThere}
use Rattle.graph_image.specs.Images.{AreKnown}
use Rattle.graph_view.specs.ReadLaws.{root_known, triples_known}
use Rattle.graph_lines.specs.Walks.{AddsTexts, line_behind}
use Rattle.graph_lines.proofs.MemberLemmas.{added_single, row_node, edge_leads}
use Rattle.graph_lines.proofs.TripleLemmas.{added_none, trip_known, set_of_map, triples_there}
use Rattle.graph_lines.proofs.triple_lines.add_lines.Goals as goal

pub returns-in-Empty : goal.returns-in-Empty
returns-in-Empty c = added_none (line_behind c.args.graph.all.dict.now []) c.args.graph.all.tables.now c.args.graph.root.now c.in-Empty.is c.args.lines.now.items

pub triple_line-requires-clause-subject : goal.triple_line-requires-clause-subject
triple_line-requires-clause-subject c =
    let v = c.args.graph in
    (trip_known v.all.dict.now c.in-One.triple (subst (λ r. AreKnown v.all.dict.now (root_set v.all.tables.now r)) c.in-One.is (triples_known v.all.tables.now v.all.dict.now v.root.now v.known))).0

pub triple_line-requires-clause-predicate : goal.triple_line-requires-clause-predicate
triple_line-requires-clause-predicate c =
    let v = c.args.graph in
    (trip_known v.all.dict.now c.in-One.triple (subst (λ r. AreKnown v.all.dict.now (root_set v.all.tables.now r)) c.in-One.is (triples_known v.all.tables.now v.all.dict.now v.root.now v.known))).1

pub triple_line-requires-clause-object : goal.triple_line-requires-clause-object
triple_line-requires-clause-object c =
    let v = c.args.graph in
    (trip_known v.all.dict.now c.in-One.triple (subst (λ r. AreKnown v.all.dict.now (root_set v.all.tables.now r)) c.in-One.is (triples_known v.all.tables.now v.all.dict.now v.root.now v.known))).2

pub returns-in_ok-push-in-One : goal.returns-in_ok-push-in-One
returns-in_ok-push-in-One c =
    let v = c.args.graph in
    let text = line_behind v.all.dict.now [] in
    let pushed = c.in_ok-push-in-One.ensures.items ∙ ap (λ (w : Text). c.args.lines.now.items ++ w ∷ []) c.in_ok-triple_line-in-One.ensures in
    subst (λ r. AddsTexts text (root_set v.all.tables.now r) c.args.lines.now.items c.push.new.self.items) (sym c.in-One.is)
    (added_single text (trip_tuple c.in-One.triple) c.args.lines.now.items c.push.new.self.items pushed)

pub unreachable-requires : goal.unreachable-requires
unreachable-requires c =
    let v = c.args.graph in
    let t = v.all.tables.now in
    let n = c.node.result.now in
    let there : IsSome (row_of t 3 c.in-Many.held) = subst (IsRootThere t) c.in-Many.is (root_known t v.all.dict.now v.root.now v.known) in
    let form : IfSome (row_of t 3 c.in-Many.held) (λ r. r.node ≡ n) = subst (λ q. IfSome (row_of t 3 q) (λ r. r.node ≡ n)) c.row.ensures c.node.ensures in
    triples_there t v.all.dict.now v.all.known c.in-Many.held there n form (sym c.map.ensures ∙ ap (option_map (λ m. m.now)) c.in-None.is)

pub add_triples-requires-clause-there : goal.add_triples-requires-clause-there
add_triples-requires-clause-there c k e at =
    let v = c.args.graph in
    let t = v.all.tables.now in
    let n = c.node.result.now in
    let there : IsSome (row_of t 3 c.in-Many.held) = subst (IsRootThere t) c.in-Many.is (root_known t v.all.dict.now v.root.now v.known) in
    let form : IfSome (row_of t 3 c.in-Many.held) (λ r. r.node ≡ n) = subst (λ q. IfSome (row_of t 3 q) (λ r. r.node ≡ n)) c.row.ensures c.node.ensures in
    let node = row_node t 3 c.in-Many.held there n form in
    let first = sym c.map.ensures ∙ ap (option_map (λ m. m.now)) c.in-Some.is in
    edge_leads t v.all.dict.now v.all.known 2 c.in-Many.held n node 0 c.in-Some.triples.now first k e at

pub add_triples-requires-clause-known : goal.add_triples-requires-clause-known
add_triples-requires-clause-known c =
    let v = c.args.graph in
    let t = v.all.tables.now in
    let n = c.node.result.now in
    let there : IsSome (row_of t 3 c.in-Many.held) = subst (IsRootThere t) c.in-Many.is (root_known t v.all.dict.now v.root.now v.known) in
    let form : IfSome (row_of t 3 c.in-Many.held) (λ r. r.node ≡ n) = subst (λ q. IfSome (row_of t 3 q) (λ r. r.node ≡ n)) c.row.ensures c.node.ensures in
    let node = row_node t 3 c.in-Many.held there n form in
    let first = sym c.map.ensures ∙ ap (option_map (λ m. m.now)) c.in-Some.is in
    let is : root_set t v.root.now ≡ union_over c.in-Some.triples.now (edge_set (set_of t 2)) =
    ap (root_set t) c.in-Many.is ∙ node_set_is t 2 c.in-Many.held n node ∙ set_of_map (set_of t 2) n c.in-Some.triples.now first in
    subst (AreKnown v.all.dict.now) is (triples_known t v.all.dict.now v.root.now v.known)

pub returns-in-Some : goal.returns-in-Some
returns-in-Some c =
    let v = c.args.graph in
    let t = v.all.tables.now in
    let n = c.node.result.now in
    let there : IsSome (row_of t 3 c.in-Many.held) = subst (IsRootThere t) c.in-Many.is (root_known t v.all.dict.now v.root.now v.known) in
    let form : IfSome (row_of t 3 c.in-Many.held) (λ r. r.node ≡ n) = subst (λ q. IfSome (row_of t 3 q) (λ r. r.node ≡ n)) c.row.ensures c.node.ensures in
    let node = row_node t 3 c.in-Many.held there n form in
    let first = sym c.map.ensures ∙ ap (option_map (λ m. m.now)) c.in-Some.is in
    let is : root_set t v.root.now ≡ union_over c.in-Some.triples.now (edge_set (set_of t 2)) =
    ap (root_set t) c.in-Many.is ∙ node_set_is t 2 c.in-Many.held n node ∙ set_of_map (set_of t 2) n c.in-Some.triples.now first in
    subst (λ S. OnOk c.add_triples.result (AddsTexts (line_behind v.all.dict.now []) S c.args.lines.now.items c.add_triples.new.lines.items)) (sym is) c.add_triples.ensures
