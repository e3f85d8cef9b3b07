use Rattle.std.proofs.Common.{[], ◌∷◌, ◌++◌, is_some, refl, ap, ◌∙◌, ℕ, List}
use Rattle.std.specs.Ordering.{nat_cmp}
use Rattle.hypertrie_model.specs.Sets.{single}
use Rattle.rdf_model.specs.Terms.{Text}
use Rattle.rdf_term.specs.Seen.{lent_term}
use Rattle.graph_view.specs.Read.{has_id}
use Rattle.graph_lines.specs.Walks.{behind}
use Rattle.graph_lines.proofs.EdgeWalks.{walk_none, walk_done, walk_there, walk_next}
use Rattle.graph_lines.proofs.MemberLemmas.{added_single, key_text, map_key_known, single_some}
use Rattle.graph_lines.proofs.members.add_keys.Goals as goal

pub loop-key-init : goal.loop-key-init
loop-key-init c =
    walk_none c.args.keys.now (λ _. single nat_cmp []) (behind c.args.style c.args.dict.now c.args.before.now) c.args.texts.now.items c.walk-walk.result c.walk-walk.ensures.entries

pub returns : goal.returns
returns c =
    walk_done c.args.keys.now (λ _. single nat_cmp []) (behind c.args.style c.args.dict.now c.args.before.now) c.args.texts.now.items c.loop-key.walk c.loop-key.texts.items
    (c.next.ensures.end (ap is_some c.in_default.is)) c.loop-key.invariant

pub term-requires : goal.term-requires
term-requires c =
    let text = behind c.args.style c.args.dict.now c.args.before.now in
    let at = walk_there c.args.keys.now (λ _. single nat_cmp []) text c.args.texts.now.items c.loop-key.walk c.next.new.self _ c.in-Some.ensures.next c.loop-key.texts.items c.loop-key.invariant in
    map_key_known c.args.keys.now (λ _. single nat_cmp []) (has_id c.args.dict.now) c.requires.known c.in-Some.key.0 _ at (single_some [])

pub loop-key-preserved : goal.loop-key-preserved
loop-key-preserved c =
    let k = c.in-Some.key.0 in
    let text : List ℕ → Text = behind c.args.style c.args.dict.now c.args.before.now in
    let pushed = c.in_ok-push.ensures.items
    ∙ ap (λ (w : Text). c.loop-key.texts.items ++ w ∷ []) (key_text c.args.style c.args.dict.now c.args.before.now k (lent_term c.term.result) c.in_ok-with_last.field-0 c.term.ensures c.in_ok-with_last.ensures) in
    walk_next c.args.keys.now (λ _. single nat_cmp []) text c.args.texts.now.items c.loop-key.walk c.next.new.self _ c.in-Some.ensures.next c.loop-key.texts.items c.loop-key.invariant
    (λ t. text (k ∷ t)) (λ _. refl) c.push.new.self.items (added_single (λ t. text (k ∷ t)) [] c.loop-key.texts.items c.push.new.self.items pushed)
