use Rattle.std.proofs.Common.{arith, ap, sym, subst, ◌∙◌, IsSome}
use Rattle.trie_node.specs.Sets.{set_hash, edges_of}
use Rattle.trie_node.specs.Forms.{IsKeyNode}
use Rattle.trie_context.specs.Rows.{no_tables, row_of}
use Rattle.trie_context.specs.Holds.{HasRoom}
use Rattle.trie_context.specs.MoveLaws.{node_there, row_stays_there}
use Rattle.worked_tries.proofs.KeysAndPairs.{zero_mix, two, three, rise, key_node_form}
use Rattle.worked_tries.proofs.HoldSteps.{AreFew, no_rows_few, few_more, few_room, key_edges, held_twice, held_once}
use Rattle.worked_tries.proofs.holds.found.Goals as goal

pub intern-requires-clause-form : goal.intern-requires-clause-form
intern-requires-clause-form g c = subst (IsKeyNode (set_hash zero_mix 1)) (sym c.in_ok-two_keys.ensures) (key_node_form two three rise)

pub intern-requires-clause-held : goal.intern-requires-clause-held
intern-requires-clause-held g c r = let e = ap (λ n. edges_of n r) c.in_ok-two_keys.ensures ∙ key_edges two three rise r in omega arith

pub intern-requires-clause-room : goal.intern-requires-clause-room
intern-requires-clause-room g c = subst HasRoom (sym c.new-context.ensures) (few_room no_tables 0 (omega arith) no_rows_few)

pub find-requires : goal.find-requires
find-requires g c = record { form = subst (IsKeyNode (set_hash zero_mix 1)) (sym c.in_ok-sought.ensures) (key_node_form two three rise) }

pub retain_edge-requires-clause-room : goal.retain_edge-requires-clause-room
retain_edge-requires-clause-room g c =
    few_room c.intern.new.self 1 (omega arith) (few_more c.new-context.result c.intern.new.self 1 c.in_ok-keys.keys 0 (subst (λ t. AreFew t 0) (sym c.new-context.ensures) no_rows_few) c.in_ok-keys.ensures.counts)

pub count-count-requires : goal.count-count-requires
count-count-requires g c =
    let k = c.in_ok-keys.keys in
    let there = row_stays_there c.intern.new.self c.retain_edge.new.self c.retain_edge.ensures.stay 1 k (node_there c.intern.new.self 1 k c.in_ok-two_keys.field-0 c.in_ok-keys.ensures.there) in
    subst (λ q. IsSome (row_of c.tables.result.now 1 q)) (sym c.row-row.ensures) (subst (λ t. IsSome (row_of t 1 k)) (sym c.tables.ensures.same) there)

pub release_edge-requires : goal.release_edge-requires
release_edge-requires g c =
    let held = held_twice c.new-context.result c.intern.new.self c.retain_edge.new.self c.in_ok-keys.keys (edges_of c.in_ok-two_keys.field-0) c.in_ok-keys.ensures.moved c.into_edge-edge.result c.into_edge-edge.ensures c.retain_edge.ensures.moved in
    record { held = λ r. omega (arith, held r) }

pub release_edge-requires-2 : goal.release_edge-requires-2
release_edge-requires-2 g c =
    record { held = held_once c.new-context.result c.intern.new.self c.retain_edge.new.self c.in_ok-keys.keys (edges_of c.in_ok-two_keys.field-0) c.in_ok-keys.ensures.moved c.into_edge-edge.result c.into_edge-edge.ensures c.retain_edge.ensures.moved c.release_edge.new.self c.release_edge.ensures.moved }

pub find-requires-2 : goal.find-requires-2
find-requires-2 g c = record { form = subst (IsKeyNode (set_hash zero_mix 1)) (sym c.in_ok-sought.ensures) (key_node_form two three rise) }
