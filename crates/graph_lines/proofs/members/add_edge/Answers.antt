use Rattle.std.proofs.Common.{[], ◌∷◌, ◌++◌, sym, ap, subst, ◌∙◌}
use Rattle.rdf_model.specs.Terms.{Text}
use Rattle.rdf_term.specs.Seen.{lent_term}
use Rattle.trie_node.specs.Sets.{edge_set}
use Rattle.trie_context.specs.Rows.{set_of}
use Rattle.tuple_image.specs.TupleImages.{IsOver}
use Rattle.graph_view.specs.Read.{has_id}
use Rattle.graph_lines.specs.Walks.{AddsTexts, behind}
use Rattle.graph_lines.proofs.MemberLemmas.{added_single, key_text, single_known}
use Rattle.graph_lines.proofs.members.add_edge.Goals as goal

pub term-requires : goal.term-requires
term-requires c = single_known (has_id c.args.all.dict.now) c.in-Key.key.0 (subst (λ e. IsOver (has_id c.args.all.dict.now) (edge_set (set_of c.args.all.tables.now 1) e)) c.in-Key.is c.requires.known)

pub returns-in_ok-push-in-Key : goal.returns-in_ok-push-in-Key
returns-in_ok-push-in-Key c =
    let terms = c.args.all.dict.now in
    let k = c.in-Key.key.0 in
    let text = behind c.args.style terms c.args.before.now in
    let pushed = c.in_ok-push-in-Key.ensures.items
    ∙ ap (λ (w : Text). c.args.texts.now.items ++ w ∷ []) (key_text c.args.style terms c.args.before.now k (lent_term c.term.result) c.in_ok-with_last-in-Key.field-0 c.term.ensures c.in_ok-with_last-in-Key.ensures) in
    subst (λ e. AddsTexts text (edge_set (set_of c.args.all.tables.now 1) e) c.args.texts.now.items c.push.new.self.items) (sym c.in-Key.is)
    (added_single text (k ∷ []) c.args.texts.now.items c.push.new.self.items pushed)
