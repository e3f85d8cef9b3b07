use Rattle.std.proofs.Common.{◌≡◌, ◌≤◌, List, Option, Result, Ok, Err, IfOk, Some, sym, ◌∙◌, ap, subst, refl, IsSome, IfSome}
use Rattle.std.specs.Ordering.{nat_cmp}
use Rattle.std.specs.FinMap as map
use Rattle.std.specs.FinSet as set
use Rattle.hypertrie_model.specs.Sets.{empty}
use Rattle.hypertrie_model.specs.IdSets.{IdSet}
use Rattle.trie_depth.specs.declared.id.Id.{Id}
use Rattle.trie_depth.specs.declared.memory.Memory.{Memory}
use Rattle.edge_map.specs.declared.edge.Edge.{Edge}
use Rattle.edge_map.specs.Edges.{Edges, changed}
use Rattle.edge_map.specs.declared.edge.Edge.TheVariants.{Key, Node as ToRow}
use Rattle.trie_context.specs.Rows.{row_of, set_of}
use Rattle.trie_context.specs.FitEdges.{set_at}
use Rattle.trie_change.specs.Rooms.{FitsSome, AreKeys}
use Rattle.trie_change.proofs.KeyLemmas.{keys_none, keys_one}
use Rattle.trie_change.proofs.KeyRowLemmas.{key_row, read_keys, read_map}
use Rattle.trie_change.proofs.keys.keys_with.Goals as goal

pub node-requires : goal.node-requires
node-requires g c =
    let edge : c.in-Some-Node.field-0 ≡ ToRow c.in-Some-Node.row = rw c.in-Some-Node.is at c.in-Some-Node.field-0-is in
    let large : 2 ≤ set.len (set_of c.args.context.now 1 c.in-Some-Node.row) = subst (FitsSome c.args.context.now 1) (c.in-Some-Node.is ∙ ap Some edge) c.requires.fits in
    let r = key_row g.M.Mix.mixed c.args.context.now c.tables.ensures.kept c.in-Some-Node.row large in
    subst IsSome (sym (ap (λ t. row_of t 1 c.in-Some-Node.row) c.tables.ensures.same ∙ r.there)) refl

-- what was made of a map of keys
made : (S : IdSet) (old : Edges) (cs : List (Id × Option Edge)) (r : Result Edges Memory) → AreKeys S old → IfOk r (λ m. m ≡ changed old cs) → IfOk r (λ m. (before : Edges) × AreKeys S before × (m ≡ changed before cs))
made S old cs (Ok m) keys is = (old, keys, is)
made S old cs (Err e) keys is = tt

pub returns-in-None : goal.returns-in-None
returns-in-None g c =
    let keys = subst (λ o. AreKeys (set_at c.args.context.now 1 o) c.new-empty.result) (sym c.in-None.is) (subst (AreKeys (empty nat_cmp)) (sym c.new-empty.ensures) keys_none) in
    made _ c.new-empty.result c.args.changes.now c.with.result keys c.with.ensures

pub returns-in-Some-Key : goal.returns-in-Some-Key
returns-in-Some-Key g c =
    let edge : c.in-Some-Key.field-0 ≡ Key c.in-Some-Key.key = rw c.in-Some-Key.is at c.in-Some-Key.field-0-is in
    let stands : set_at c.args.context.now 1 c.args.edge ≡ set_at c.args.context.now 1 (Some (Key c.in-Some-Key.key)) = ap (set_at c.args.context.now 1) (c.in-Some-Key.is ∙ ap Some edge) in
    let one = subst (λ m. AreKeys (set_at c.args.context.now 1 (Some (Key c.in-Some-Key.key))) (map.insert m c.in-Some-Key.key.0 (Key c.in-Some-Key.key))) (sym c.new-empty.ensures) (keys_one c.in-Some-Key.key) in
    let keys = subst (AreKeys (set_at c.args.context.now 1 c.args.edge)) (sym c.in_ok-with-in-Some-Key.ensures) (subst (λ S. AreKeys S (map.insert c.new-empty.result c.in-Some-Key.key.0 (Key c.in-Some-Key.key))) (sym stands) one) in
    made _ c.in_ok-with-in-Some-Key.field-0 c.args.changes.now c.with-in-Some-Key-3.result keys c.with-in-Some-Key-3.ensures

pub returns-in-Some : goal.returns-in-Some
returns-in-Some g c =
    let t = c.args.context.now in
    let n = c.in-Some-Node.row in
    let edge : c.in-Some-Node.field-0 ≡ ToRow n = rw c.in-Some-Node.is at c.in-Some-Node.field-0-is in
    let is : c.args.edge ≡ Some (ToRow n) = c.in-Some-Node.is ∙ ap Some edge in
    let read : IfSome (row_of t 1 n) (λ row. row.node ≡ c.node.result.now) = subst (λ u. IfSome (row_of u 1 n) (λ row. row.node ≡ c.node.result.now)) c.tables.ensures.same c.node.ensures in
    let keys = subst (λ o. AreKeys (set_at t 1 o) c.in-Some.keys.now) (sym is) (read_keys g.M.Mix.mixed t c.tables.ensures.kept n (subst (FitsSome t 1) is c.requires.fits) c.node.result.now read c.in-Some.keys.now c.in-Some.ensures) in
    made _ c.in-Some.keys.now c.args.changes.now c.with-in-Some.result keys c.with-in-Some.ensures

pub returns : goal.returns
returns g c =
    let t = c.args.context.now in
    let n = c.in-Some-Node.row in
    let edge : c.in-Some-Node.field-0 ≡ ToRow n = rw c.in-Some-Node.is at c.in-Some-Node.field-0-is in
    let is : c.args.edge ≡ Some (ToRow n) = c.in-Some-Node.is ∙ ap Some edge in
    let read : IfSome (row_of t 1 n) (λ row. row.node ≡ c.node.result.now) = subst (λ u. IfSome (row_of u 1 n) (λ row. row.node ≡ c.node.result.now)) c.tables.ensures.same c.node.ensures in
    absurd (read_map g.M.Mix.mixed t c.tables.ensures.kept n (subst (FitsSome t 1) is c.requires.fits) c.node.result.now read c.in-None-map.ensures)
