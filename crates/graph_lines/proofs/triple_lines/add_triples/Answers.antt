use Rattle.std.proofs.Common.{[], ◌∷◌, is_some, refl, ap, sym, subst, arith, ◌∙◌, ℕ, List}
use Rattle.rdf_model.specs.Terms.{Text}
use Rattle.rdf_term.specs.Seen.{lent_term}
use Rattle.trie_node.specs.Sets.{edge_set}
use Rattle.trie_context.specs.Rows.{set_of, LeadsToRow}
use Rattle.hypertrie_model.specs.Unions.{union_over}
use Rattle.tuple_image.specs.TupleImages.{IsOver}
use Rattle.graph_view.specs.Read.{has_id}
use Rattle.graph_view.specs.ReadLaws.{known_ids}
use Rattle.graph_lines.specs.Walks.{AddsTexts, line_behind}
use Rattle.graph_lines.specs.declared.style.Style.TheVariants.{Line}
use Rattle.graph_lines.proofs.EdgeWalks.{walk_none, walk_done, walk_there, walk_next}
use Rattle.graph_lines.proofs.MemberLemmas.{added_as, text_under, map_key_known, map_rest_known}
use Rattle.graph_lines.proofs.TripleLemmas.{subject_some, behind_subject, no_key}
use Rattle.graph_lines.proofs.triple_lines.add_triples.Goals as goal

pub loop-subject-init : goal.loop-subject-init
loop-subject-init c =
    walk_none c.args.triples.now (edge_set (set_of c.args.all.tables.now 2)) (line_behind c.args.all.dict.now []) c.args.lines.now.items c.walk-walk.result c.walk-walk.ensures.entries

pub returns : goal.returns
returns c =
    walk_done c.args.triples.now (edge_set (set_of c.args.all.tables.now 2)) (line_behind c.args.all.dict.now []) c.args.lines.now.items c.loop-subject.walk c.loop-subject.lines.items
    (c.next.ensures.end (ap is_some c.in_default.is)) c.loop-subject.invariant

pub term-requires : goal.term-requires
term-requires c =
    let low = set_of c.args.all.tables.now 2 in
    let at = walk_there c.args.triples.now (edge_set low) (line_behind c.args.all.dict.now []) c.args.lines.now.items c.loop-subject.walk c.next.new.self _ c.in-Some.ensures.next c.loop-subject.lines.items c.loop-subject.invariant in
    map_key_known c.args.triples.now (edge_set low) (has_id c.args.all.dict.now) (known_ids c.args.all.dict.now (union_over c.args.triples.now (edge_set low)) c.requires.known) c.in-Some.subject.0 c.in-Some.edge at
    (subject_some c.args.all.tables.now c.args.all.dict.now c.args.all.known c.in-Some.edge (c.requires.there c.in-Some.subject.0 c.in-Some.edge at))

pub unreachable-requires : goal.unreachable-requires
unreachable-requires c =
    let low = set_of c.args.all.tables.now 2 in
    let at = walk_there c.args.triples.now (edge_set low) (line_behind c.args.all.dict.now []) c.args.lines.now.items c.loop-subject.walk c.next.new.self _ c.in-Some.ensures.next c.loop-subject.lines.items c.loop-subject.invariant in
    no_key c.args.all.dict.now c.args.triples.now low c.requires.known c.in-Some.subject.0 c.in-Some.edge at _ c.in-Key.is

pub add_row_pairs-requires-clause-there : goal.add_row_pairs-requires-clause-there
add_row_pairs-requires-clause-there c =
    let low = set_of c.args.all.tables.now 2 in
    let at = walk_there c.args.triples.now (edge_set low) (line_behind c.args.all.dict.now []) c.args.lines.now.items c.loop-subject.walk c.next.new.self _ c.in-Some.ensures.next c.loop-subject.lines.items c.loop-subject.invariant in
    subst (LeadsToRow c.args.all.tables.now 2) c.in-Node.is (c.requires.there c.in-Some.subject.0 c.in-Some.edge at)

pub add_row_pairs-requires-clause-known : goal.add_row_pairs-requires-clause-known
add_row_pairs-requires-clause-known c =
    let low = set_of c.args.all.tables.now 2 in
    let at = walk_there c.args.triples.now (edge_set low) (line_behind c.args.all.dict.now []) c.args.lines.now.items c.loop-subject.walk c.next.new.self _ c.in-Some.ensures.next c.loop-subject.lines.items c.loop-subject.invariant in
    let terms = c.args.all.dict.now in
    subst (λ e. IsOver (has_id terms) (edge_set low e)) c.in-Node.is
    (map_rest_known c.args.triples.now (edge_set low) (has_id terms) (known_ids terms (union_over c.args.triples.now (edge_set low)) c.requires.known) c.in-Some.subject.0 c.in-Some.edge at)

pub loop-subject-preserved : goal.loop-subject-preserved
loop-subject-preserved c =
    let low = set_of c.args.all.tables.now 2 in
    let at = walk_there c.args.triples.now (edge_set low) (line_behind c.args.all.dict.now []) c.args.lines.now.items c.loop-subject.walk c.next.new.self _ c.in-Some.ensures.next c.loop-subject.lines.items c.loop-subject.invariant in
    let terms = c.args.all.dict.now in
    let k = c.in-Some.subject.0 in
    let text : List ℕ → Text = line_behind terms [] in
    let added = subst (λ e. AddsTexts (line_behind terms c.in_ok-word.word) (edge_set low e) c.loop-subject.lines.items c.add_row_pairs.new.texts.items) (sym c.in-Node.is) c.in_ok-add_row_pairs-in-Node.ensures in
    walk_next c.args.triples.now (edge_set low) text c.args.lines.now.items c.loop-subject.walk c.next.new.self _ c.in-Some.ensures.next c.loop-subject.lines.items c.loop-subject.invariant
    (λ t. text (k ∷ t)) (λ _. refl) c.add_row_pairs.new.texts.items
    (added_as (line_behind terms c.in_ok-word.word) (λ t. text (k ∷ t)) (edge_set low c.in-Some.edge)
    (λ t e. text_under Line terms c.new-start.result k (lent_term c.term.result) c.in_ok-word.word c.term.ensures c.in_ok-word.ensures t (let two = behind_subject terms c.args.triples.now low c.requires.known k c.in-Some.edge at t e in omega (arith, two))
    ∙ ap (λ before. line_behind terms before (k ∷ t)) c.new-start.ensures)
    c.loop-subject.lines.items c.add_row_pairs.new.texts.items added)
