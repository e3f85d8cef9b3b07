use Rattle.std.proofs.Common.{◌≡◌, ◌≤◌, arith, ap, sym, subst, ◌∙◌, IsSome}
use Rattle.trie_node.specs.Sets.{set_hash, edges_of}
use Rattle.trie_node.specs.Forms.{IsKeyNode}
use Rattle.trie_context.specs.Rows.{no_tables, row_of}
use Rattle.trie_context.specs.Holds.{HasRoom, count_of, holds_of, one_at, at_depth, nothing}
use Rattle.trie_context.specs.Kept.{AreMoved}
use Rattle.trie_context.specs.MoveLaws.{node_there, row_stays_there}
use Rattle.worked_tries.proofs.KeysAndPairs.{zero_mix, two, three, rise, key_node_form}
use Rattle.worked_tries.proofs.HoldSteps.{AreFew, no_rows_few, few_more, few_room, key_edges, two_holds, not_alone, one_left}
use Rattle.worked_tries.proofs.holds.not_opened.Goals as goal

pub intern-requires-clause-form : goal.intern-requires-clause-form
intern-requires-clause-form g c = subst (IsKeyNode (set_hash zero_mix 1)) (sym c.in_ok-two_keys.ensures) (key_node_form two three rise)

pub intern-requires-clause-held : goal.intern-requires-clause-held
intern-requires-clause-held g c r = let e = ap (λ n. edges_of n r) c.in_ok-two_keys.ensures ∙ key_edges two three rise r in omega arith

pub intern-requires-clause-room : goal.intern-requires-clause-room
intern-requires-clause-room g c = subst HasRoom (sym c.new-context.ensures) (few_room no_tables 0 (omega arith) no_rows_few)

pub retain_edge-requires-clause-room : goal.retain_edge-requires-clause-room
retain_edge-requires-clause-room g c =
    few_room c.intern.new.self 1 (omega arith) (few_more c.new-context.result c.intern.new.self 1 c.in_ok-keys.keys 0 (subst (λ t. AreFew t 0) (sym c.new-context.ensures) no_rows_few) c.in_ok-keys.ensures.counts)

pub open-requires : goal.open-requires
open-requires g c =
    let k = c.in_ok-keys.keys in
    let same : k ≡ c.of_edge.result = let a = c.into_edge-edge.ensures in let b = c.of_edge.ensures in cc in
    let two_there = two_holds c.new-context.result c.intern.new.self c.retain_edge.new.self k (edges_of c.in_ok-two_keys.field-0) c.in_ok-keys.ensures.moved c.into_edge-edge.result c.into_edge-edge.ensures c.retain_edge.ensures.moved in
    record { held = subst (λ q. 1 ≤ holds_of c.retain_edge.new.self 1 q) same (omega (arith, two_there)) }

pub unreachable-requires : goal.unreachable-requires
unreachable-requires g c =
    let k = c.in_ok-keys.keys in
    let same : k ≡ c.of_edge.result = let a = c.into_edge-edge.ensures in let b = c.of_edge.ensures in cc in
    not_alone c.new-context.result c.intern.new.self c.retain_edge.new.self k (edges_of c.in_ok-two_keys.field-0) c.in_ok-keys.ensures.moved c.into_edge-edge.result c.into_edge-edge.ensures c.retain_edge.ensures.moved
    (subst (λ q. count_of (row_of c.retain_edge.new.self 1 q) ≡ 1) (sym same) c.in-Ok.ensures.alone)

pub release-requires : goal.release-requires
release-requires g c =
    let k = c.in_ok-keys.keys in
    let same : k ≡ c.in-Err.held = let a = c.into_edge-edge.ensures in let b = c.of_edge.ensures in let h = c.in-Err.ensures.hold in cc in
    let two_there = two_holds c.new-context.result c.intern.new.self c.retain_edge.new.self k (edges_of c.in_ok-two_keys.field-0) c.in_ok-keys.ensures.moved c.into_edge-edge.result c.into_edge-edge.ensures c.retain_edge.ensures.moved in
    record { held = subst (λ t. 1 ≤ holds_of t 1 c.in-Err.held) (sym c.in-Err.ensures.same) (subst (λ q. 1 ≤ holds_of c.retain_edge.new.self 1 q) same (omega (arith, two_there))) }

pub release_edge-requires : goal.release_edge-requires
release_edge-requires g c =
    let k = c.in_ok-keys.keys in
    let same : c.in-Err.held ≡ k = let a = c.into_edge-edge.ensures in let b = c.of_edge.ensures in let h = c.in-Err.ensures.hold in cc in
    let less =
    subst (λ t. AreMoved zero_mix t c.release.new.self nothing (at_depth 1 (one_at k))) c.in-Err.ensures.same
    (subst (λ q. AreMoved zero_mix c.«open».new.self c.release.new.self nothing (at_depth 1 (one_at q))) same c.release.ensures.moved) in
    record { held = one_left c.new-context.result c.intern.new.self c.retain_edge.new.self k (edges_of c.in_ok-two_keys.field-0) c.in_ok-keys.ensures.moved c.into_edge-edge.result c.into_edge-edge.ensures c.retain_edge.ensures.moved c.release.new.self less }
