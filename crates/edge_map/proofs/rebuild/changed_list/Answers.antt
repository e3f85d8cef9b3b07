use Rattle.std.proofs.Common.{◌≡◌, ◌∙◌, ap, arith, length, sym, subst}
use Rattle.std.proofs.lemmas.Result.{IfOk-weaker}
use Rattle.edge_map.specs.Entries.{KeysRise, merged}
use Rattle.edge_map.specs.Chunks.{flat, IsMap}
use Rattle.edge_map.proofs.MergeLemmas.{merged_rise}
use Rattle.edge_map.proofs.SplitLemmas.{merged_length}
use Rattle.edge_map.proofs.JoinLemmas.{few_keys, map_of}
use Rattle.edge_map.proofs.ShortLemmas.{short_rises, short_is_few}
use Rattle.edge_map.proofs.rebuild.changed_list.Goals as goal
use Rattle.edge_map.proofs.rebuild.changed_list.Goals.{In_ok-rebuild-in-Long}
use Rattle.edge_map.proofs.rebuild.changed_list.Given.{Over}

pub list_of-requires : goal.list_of-requires
list_of-requires g c =
    let all = c.deref.ensures.value ∙ c.in_ok-entries-in-Short.ensures in
    record { rising = subst KeysRise (sym all) (merged_rise 0 c.args.changes.now c.in-Short.short (short_rises _ _ c.in-Short.ensures c.requires.map) c.requires.changes) }

pub returns-in_ok-entries-in-Short-clause-copies :
    goal.returns-in_ok-entries-in-Short-clause-copies
returns-in_ok-entries-in-Short-clause-copies g c =
    let all : length c.deref.result.now ≡ length (merged c.in-Short.short c.args.changes.now) = ap length (c.deref.ensures.value ∙ c.in_ok-entries-in-Short.ensures) in
    omega (arith, all, merged_length c.args.changes.now c.in-Short.short, short_is_few _ _ c.in-Short.ensures c.requires.map, c.list_of.ensures.copies)

rebuilt : (g : Over) (c : In_ok-rebuild-in-Long g) → IsMap c.in_ok-rebuild-in-Long.field-0
rebuilt g c =
    let new = c.in_ok-rebuild-in-Long.field-0 in
    let entries = c.in_ok-rebuild-in-Long.ensures.entries ∙ ap (λ cs. merged (flat cs) c.args.changes.now) (c.rest.ensures ∙ c.in-Long.ensures) in
    let rising : KeysRise (flat new) = subst KeysRise (sym entries) (merged_rise 0 c.args.changes.now (flat c.args.list.now) c.requires.map.rising c.requires.changes) in
    map_of new rising c.in_ok-rebuild-in-Long.ensures.chunks

pub finish-requires : goal.finish-requires
finish-requires g c = let m = rebuilt g c in few_keys (flat c.in_ok-rebuild-in-Long.field-0) m.rising m.chunks.small

pub returns-in_ok-rebuild-in-Long-clause-map :
    goal.returns-in_ok-rebuild-in-Long-clause-map
returns-in_ok-rebuild-in-Long-clause-map g c = IfOk-weaker c.finish.result _ _ (λ list is. subst IsMap (sym is) (rebuilt g c.before)) c.finish.ensures
