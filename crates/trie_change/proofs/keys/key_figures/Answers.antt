use Rattle.std.proofs.Common.{◌≡◌, ◌≤◌, Some, sym, ◌∙◌, ap, subst, refl, IsSome, IfSome}
use Rattle.std.specs.Cmp.{nat_cmp_total as total}
use Rattle.std.specs.Cmp.Lexicographic.{slice_cmp}
use Rattle.std.specs.FinMap.{nat_cmp-IsAntisymmetric as exact}
use Rattle.std.specs.FinSet as set
use Rattle.std.specs.Ordering.{nat_cmp}
use Rattle.hypertrie_model.specs.SetLaws.{len-single}
use Rattle.edge_map.specs.declared.edge.Edge.TheVariants.{Key, Node as ToRow}
use Rattle.trie_node.specs.Sets.{set_hash}
use Rattle.trie_context.specs.Rows.{row_of, set_of}
use Rattle.trie_context.specs.FitEdges.{set_at}
use Rattle.trie_change.specs.Rooms.{FitsSome}
use Rattle.trie_change.proofs.KeyRowLemmas.{hash_none, hash_one, key_row, read_hash, read_size}
use Rattle.trie_change.proofs.keys.key_figures.Goals as goal

pub node-node-requires : goal.node-node-requires
node-node-requires g c =
    let t = c.args.context.now in
    let n = c.in-Some-Node.row in
    let edge : c.in-Some-Node.field-0 ≡ ToRow n = rw c.in-Some-Node.is at c.in-Some-Node.field-0-is in
    let large : 2 ≤ set.len (set_of t 1 n) = subst (FitsSome t 1) (c.in-Some-Node.is ∙ ap Some edge) c.requires in
    let r = key_row g.M.Mix.mixed t c.tables.ensures.kept n large in
    subst IsSome (sym (ap (λ u. row_of u 1 n) c.tables.ensures.same ∙ r.there)) refl

pub returns-in-None-clause-size : goal.returns-in-None-clause-size
returns-in-None-clause-size g c = sym (set.len-empty (slice_cmp nat_cmp)) ∙ ap (λ o. set.len (set_at c.args.context.now 1 o)) (sym c.in-None.is)

pub returns-in-None-clause-hash : goal.returns-in-None-clause-hash
returns-in-None-clause-hash g c = hash_none g.M.Mix.mixed ∙ ap (λ o. set_hash g.M.Mix.mixed 1 (set_at c.args.context.now 1 o)) (sym c.in-None.is)

pub returns-in-Some-Key-clause-size : goal.returns-in-Some-Key-clause-size
returns-in-Some-Key-clause-size g c =
    let edge : c.in-Some-Key.field-0 ≡ Key c.in-Some-Key.key = rw c.in-Some-Key.is at c.in-Some-Key.field-0-is in
    sym (len-single total exact _) ∙ ap (λ o. set.len (set_at c.args.context.now 1 o)) (sym (c.in-Some-Key.is ∙ ap Some edge))

pub returns-in-Some-Key-clause-hash : goal.returns-in-Some-Key-clause-hash
returns-in-Some-Key-clause-hash g c =
    let edge : c.in-Some-Key.field-0 ≡ Key c.in-Some-Key.key = rw c.in-Some-Key.is at c.in-Some-Key.field-0-is in
    c.toggled.ensures
    ∙ hash_one g.M.Mix.mixed c.in-Some-Key.key
    ∙ ap (λ o. set_hash g.M.Mix.mixed 1 (set_at c.args.context.now 1 o)) (sym (c.in-Some-Key.is ∙ ap Some edge))

pub returns-in-Some-Node-clause-size : goal.returns-in-Some-Node-clause-size
returns-in-Some-Node-clause-size g c =
    let t = c.args.context.now in
    let n = c.in-Some-Node.row in
    let edge : c.in-Some-Node.field-0 ≡ ToRow n = rw c.in-Some-Node.is at c.in-Some-Node.field-0-is in
    let is : c.args.edge ≡ Some (ToRow n) = c.in-Some-Node.is ∙ ap Some edge in
    let read : IfSome (row_of t 1 n) (λ row. row.node ≡ c.node-node.result.now) = subst (λ u. IfSome (row_of u 1 n) (λ row. row.node ≡ c.node-node.result.now)) c.tables.ensures.same c.node-node.ensures in
    c.size.ensures
    ∙ read_size g.M.Mix.mixed t c.tables.ensures.kept n (subst (FitsSome t 1) is c.requires) c.node-node.result.now read
    ∙ ap (λ o. set.len (set_at t 1 o)) (sym is)

pub returns-in-Some-Node-clause-hash : goal.returns-in-Some-Node-clause-hash
returns-in-Some-Node-clause-hash g c =
    let t = c.args.context.now in
    let n = c.in-Some-Node.row in
    let edge : c.in-Some-Node.field-0 ≡ ToRow n = rw c.in-Some-Node.is at c.in-Some-Node.field-0-is in
    let is : c.args.edge ≡ Some (ToRow n) = c.in-Some-Node.is ∙ ap Some edge in
    let read : IfSome (row_of t 1 n) (λ row. row.node ≡ c.node-node.result.now) = subst (λ u. IfSome (row_of u 1 n) (λ row. row.node ≡ c.node-node.result.now)) c.tables.ensures.same c.node-node.ensures in
    c.hash_of.ensures
    ∙ read_hash g.M.Mix.mixed t c.tables.ensures.kept n (subst (FitsSome t 1) is c.requires) c.node-node.result.now read
    ∙ ap (λ o. set_hash g.M.Mix.mixed 1 (set_at t 1 o)) (sym is)
