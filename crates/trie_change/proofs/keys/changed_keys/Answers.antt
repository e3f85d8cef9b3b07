use Rattle.std.proofs.Common.{◌≡◌, sym, ◌∙◌, subst}
use Rattle.std.proofs.lemmas.Result.{IfOk-weaker}
use Rattle.edge_map.specs.Edges.{changed}
use Rattle.edge_map.specs.Entries.{KeysRise}
use Rattle.hypertrie_model.specs.Changes.{after}
use Rattle.trie_context.specs.FitEdges.{set_at}
use Rattle.trie_change.specs.Batches.{set_of_entries, pair_rest}
use Rattle.trie_change.specs.Changes.{grows}
use Rattle.trie_change.specs.Rooms.{AreKeys}
use Rattle.trie_change.proofs.KeyLemmas.{changes_rise, keys_after}
use Rattle.trie_change.proofs.keys.changed_keys.Goals as goal

pub keys_with-requires-clause-rising : goal.keys_with-requires-clause-rising
keys_with-requires-clause-rising g c = subst KeysRise (sym (c.deref.ensures.value ∙ c.in_ok-changes.ensures)) (changes_rise c.args.change c.args.run.now c.requires.order)

pub returns : goal.returns
returns g c =
    let made = c.deref.ensures.value ∙ c.in_ok-changes.ensures in
    let S = set_at c.args.context.now 1 c.args.old in
    IfOk-weaker c.keys_with.result _ _ (λ m old. subst (AreKeys (after (grows c.args.change) S (set_of_entries pair_rest c.args.run.now))) (sym old.2)
    (subst (λ cs. AreKeys (after (grows c.args.change) S (set_of_entries pair_rest c.args.run.now)) (changed old.0 cs)) (sym made) (keys_after c.args.change S old.0 c.args.run.now old.1)))
    c.keys_with.ensures
