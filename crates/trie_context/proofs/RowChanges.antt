-- One row counted anew, added or taken out.
use Rattle.std.specs.Prelude.{◌≡◌, ℕ, suc, ◌+◌, ◌<◌, ◌≤◌, ◌≢◌, refl, None, Some}
use Rattle.std.proofs.Common.{sym, ◌∙◌, ap, subst, arith}
use Rattle.std.specs.Ordering.{nat_cmp}
use Rattle.std.specs.Cmp.{nat_cmp_total as total}
use Rattle.std.specs.FinMap as map
use Rattle.std.specs.FinMap.{FinMap, nat_cmp-IsAntisymmetric as exact}
use Rattle.hypertrie_model.specs.FoldLaws.{sum_over-insert, sum_over-remove, sum_over-set}
use Rattle.hypertrie_model.specs.MapLaws.{by_key, get-insert_here, get-insert_other, get-remove_here, get-remove_other}
use Rattle.node_table.specs.Table.{Row}
use Rattle.trie_node.specs.declared.node.Node.{Node}
use Rattle.trie_node.specs.Sets.{edges_of, hash_of_node}
use Rattle.trie_context.specs.Rows.{Rows, node_set, row_set, sets_over}
use Rattle.trie_context.specs.Holds.{count_of, edges_from, holds_over, one_at}
use Rattle.trie_context.specs.Kept.{IsNode, AllKept}
use Rattle.trie_context.specs.RowLaws.{fair_at, counted}
use Rattle.trie_context.specs.MoveLaws.{if_other, if_same}
use Rattle.trie_context.proofs.ChangeLemmas.{AreNext}

same_some : {A : Type 0} (x y : A) → Some x ≡ Some y → x ≡ y
same_some x y e = cc

not_some : {A : Type 0} {G : Type 0} (x : A) → None ≡ Some x → G
not_some x e = absurd (let t : ⊥ = cc in t)

-- what stands at each key after a change at one
module _ {X : Type 0} where
  pub at_insert : (m : FinMap nat_cmp X) (k : ℕ) (v : X) (P : ℕ → X → Type 0) → P k v → ((q : ℕ) (w : X) → q ≢ k → map.get m q ≡ Some w → P q w) → (q : ℕ) (w : X) → map.get (map.insert m k v) q ≡ Some w → P q w
  at_insert m k v P here other q w e =
      by_key total exact (λ _. P q w) q k
      (λ is. subst (λ z. P z w) (sym is) (subst (λ y. P k y) (same_some v w (sym (get-insert_here total exact m k v) ∙ ap (map.get (map.insert m k v)) (sym is) ∙ e)) here))
      (λ ne. other q w ne (sym (get-insert_other total exact m k v q ne) ∙ e))

  pub at_remove : (m : FinMap nat_cmp X) (k : ℕ) (P : ℕ → X → Type 0) → ((q : ℕ) (w : X) → q ≢ k → map.get m q ≡ Some w → P q w) → (q : ℕ) (w : X) → map.get (map.remove m k) q ≡ Some w → P q w
  at_remove m k P other q w e =
      by_key total exact (λ _. P q w) q k
      (λ is. not_some w (sym (get-remove_here total exact m k) ∙ ap (map.get (map.remove m k)) (sym is) ∙ e))
      (λ ne. other q w ne (sym (get-remove_other total exact m k q ne) ∙ e))

-- counts and edges
module _ (rows : Rows) (i : ℕ) where
  pub count_insert : (row : Row Node) (old new : ℕ → ℕ) → count_of (map.get rows i) + new i ≡ row.count + old i → ((r : ℕ) → r ≢ i → new r ≡ old r) → (r : ℕ) → count_of (map.get (map.insert rows i row) r) + old r ≡ count_of (map.get rows r) + new r
  count_insert row old new here else r = by_key total exact (λ _. count_of (map.get (map.insert rows i row) r) + old r ≡ count_of (map.get rows r) + new r) r i
      (λ is. subst (λ q. count_of (map.get (map.insert rows i row) q) + old q ≡ count_of (map.get rows q) + new q) (sym is) (let e : count_of (map.get (map.insert rows i row) i) ≡ row.count = ap count_of (get-insert_here total exact rows i row) in omega arith))
      (λ ne. let e : count_of (map.get (map.insert rows i row) r) ≡ count_of (map.get rows r) = ap count_of (get-insert_other total exact rows i row r ne) in let s = else r ne in omega arith)

  pub count_remove : (r : ℕ) → count_of (map.get rows i) ≡ 1 → count_of (map.get (map.remove rows i) r) + one_at i r ≡ count_of (map.get rows r) + 0
  count_remove r one = by_key total exact (λ _. count_of (map.get (map.remove rows i) r) + one_at i r ≡ count_of (map.get rows r) + 0) r i
      (λ is. subst (λ q. count_of (map.get (map.remove rows i) q) + one_at i q ≡ count_of (map.get rows q) + 0) (sym is) (let e : count_of (map.get (map.remove rows i) i) ≡ 0 = ap count_of (get-remove_here total exact rows i) in let o : one_at i i ≡ 1 = if_same i i 1 0 refl in omega arith))
      (λ ne. let e : count_of (map.get (map.remove rows i) r) ≡ count_of (map.get rows r) = ap count_of (get-remove_other total exact rows i r ne) in let o : one_at i r ≡ 0 = if_other r i 1 0 ne in omega arith)

  pub edges_count : (n : ℕ) (row : Row Node) → map.get rows i ≡ Some row → (r : ℕ) → edges_from (map.insert rows i (record row { count = n })) r + 0 ≡ edges_from rows r + 0
  edges_count n row at r = omega (arith, sum_over-set total exact rows (λ _ w. edges_of w.node r) i row (record row { count = n }) at)

  pub edges_insert : (row : Row Node) → map.get rows i ≡ None → (r : ℕ) → edges_from (map.insert rows i row) r + 0 ≡ edges_from rows r + edges_of row.node r
  edges_insert row none r = omega (arith, sum_over-insert total exact rows (λ _ w. edges_of w.node r) i row none)

  pub edges_remove : (row : Row Node) → map.get rows i ≡ Some row → (r : ℕ) → edges_from (map.remove rows i) r + edges_of row.node r ≡ edges_from rows r + 0
  edges_remove row at r = omega (arith, sum_over-remove total exact rows (λ _ w. edges_of w.node r) i row at)

module _ (mixed : ℕ → ℕ → ℕ → ℕ → ℕ) (all : ℕ → Rows) (kept : AllKept mixed all) (j i : ℕ) where
  -- another count
  pub next_count : (n : ℕ) (row : Row Node) → map.get (all (suc j)) i ≡ Some row → 1 ≤ n → edges_from (all (suc (suc j))) i ≤ n → AreNext mixed all j (map.insert (all (suc j)) i (record row { count = n }))
  next_count n row at some enough =
      let rows = all (suc j) in
      let new = map.insert rows i (record row { count = n }) in
      let old_of : (q : ℕ) (x : Row Node) → map.get new q ≡ Some x → (y : Row Node) × (map.get rows q ≡ Some y) × (y.node ≡ x.node) =
      at_insert rows i _ (λ q x. (y : Row Node) × (map.get rows q ≡ Some y) × (y.node ≡ x.node)) (row, at, refl) (λ q x _ e. (x, e, refl)) in
      record {
        formed = at_insert rows i _ (λ r w. IsNode mixed (suc j) (sets_over all j) w.node) ((kept j).formed i row at) (λ r w _ e. (kept j).formed r w e);
        hashed = at_insert rows i _ (λ r w. w.hash ≡ hash_of_node mixed w.node) ((kept j).hashed i row at) (λ r w _ e. (kept j).hashed r w e);
        apart = λ r s w v er es same.
            let one = old_of r w er in
            let two = old_of s v es in
            (kept j).apart r s one.0 two.0 one.1 two.1 (one.2 ∙ same ∙ sym two.2);
        live = at_insert rows i _ (λ r w. 1 ≤ w.count) some (λ r w _ e. (kept j).live r w e);
        fair = λ r. by_key total exact (λ _. edges_from (all (suc (suc j))) r ≤ count_of (map.get new r)) r i
            (λ is. subst (λ z. edges_from (all (suc (suc j))) z ≤ count_of (map.get new z)) (sym is) (subst (λ o. edges_from (all (suc (suc j))) i ≤ count_of o) (sym (get-insert_here total exact rows i _)) enough))
            (λ ne. subst (λ o. edges_from (all (suc (suc j))) r ≤ count_of o) (sym (get-insert_other total exact rows i _ r ne)) ((kept j).fair r));
        stands = λ r _. by_key total exact (λ _. row_set (node_set (suc j) (sets_over all j)) (map.get rows r) ≡ row_set (node_set (suc j) (sets_over all j)) (map.get new r)) r i
            (λ is. ap (λ z. row_set (node_set (suc j) (sets_over all j)) (map.get rows z)) is ∙ ap (row_set (node_set (suc j) (sets_over all j))) at
            ∙ sym (ap (λ z. row_set (node_set (suc j) (sets_over all j)) (map.get new z)) is ∙ ap (row_set (node_set (suc j) (sets_over all j))) (get-insert_here total exact rows i (record row { count = n }))))
            (λ ne. ap (row_set (node_set (suc j) (sets_over all j))) (sym (get-insert_other total exact rows i _ r ne)));
        enough = λ r. omega (arith, edges_count rows i n row at r, fair_at mixed all kept j r);
      }

  unused_new : map.get (all (suc j)) i ≡ None → (r : ℕ) → 0 < edges_from (all (suc (suc j))) r → r ≢ i
  unused_new none r pos is =
      let fair : edges_from (all (suc (suc j))) i ≤ 0 = subst (λ o. edges_from (all (suc (suc j))) i ≤ count_of o) none ((kept j).fair i) in
      let same : edges_from (all (suc (suc j))) r ≡ edges_from (all (suc (suc j))) i = ap (edges_from (all (suc (suc j)))) is in
      omega arith

  -- a new row with one hold
  pub next_add : (node : Node) → map.get (all (suc j)) i ≡ None → IsNode mixed (suc j) (sets_over all j) node → ((s : ℕ) (other : Row Node) → map.get (all (suc j)) s ≡ Some other → other.node ≢ node)
      → ((r : ℕ) → edges_of node r ≤ holds_over all j r) → AreNext mixed all j (map.insert (all (suc j)) i (record { node = node; count = 1; hash = hash_of_node mixed node }))
  next_add node none form fresh held =
      let rows = all (suc j) in
      let row : Row Node = record { node = node; count = 1; hash = hash_of_node mixed node } in
      let new = map.insert rows i row in
      record {
        formed = at_insert rows i _ (λ r w. IsNode mixed (suc j) (sets_over all j) w.node) form (λ r w _ e. (kept j).formed r w e);
        hashed = at_insert rows i _ (λ r w. w.hash ≡ hash_of_node mixed w.node) refl (λ r w _ e. (kept j).hashed r w e);
        apart = λ r s w v er es same. at_insert rows i row (λ r w. w.node ≡ v.node → r ≡ s)
            (λ same. at_insert rows i row (λ s v. node ≡ v.node → i ≡ s) (λ _. refl) (λ s v _ e is. absurd (fresh s v e (sym is))) s v es same)
            (λ r w _ e same. at_insert rows i row (λ s v. w.node ≡ v.node → r ≡ s) (λ is. absurd (fresh r w e is)) (λ s v _ f is. (kept j).apart r s w v e f is) s v es same) r w er same;
        live = at_insert rows i _ (λ r w. 1 ≤ w.count) (omega arith) (λ r w _ e. (kept j).live r w e);
        fair = λ r. by_key total exact (λ _. edges_from (all (suc (suc j))) r ≤ count_of (map.get new r)) r i
            (λ is. let unused : edges_from (all (suc (suc j))) r ≤ 0 = subst (λ o. edges_from (all (suc (suc j))) r ≤ count_of o) (ap (map.get rows) is ∙ none) ((kept j).fair r) in omega arith)
            (λ ne. subst (λ o. edges_from (all (suc (suc j))) r ≤ count_of o) (sym (get-insert_other total exact rows i _ r ne)) ((kept j).fair r));
        stands = λ r pos. ap (row_set (node_set (suc j) (sets_over all j))) (sym (get-insert_other total exact rows i row r (unused_new none r pos)));
        enough = λ r. omega (arith, edges_insert rows i row none r, counted mixed all kept j r, held r);
      }

  -- a row that no edge leads to taken out
  pub next_remove : (row : Row Node) → map.get (all (suc j)) i ≡ Some row → edges_from (all (suc (suc j))) i ≡ 0 → AreNext mixed all j (map.remove (all (suc j)) i)
  next_remove row at unused =
      let rows = all (suc j) in
      let new = map.remove rows i in
      let used : (r : ℕ) → 0 < edges_from (all (suc (suc j))) r → r ≢ i = λ r pos is. let same : edges_from (all (suc (suc j))) r ≡ edges_from (all (suc (suc j))) i = ap (edges_from (all (suc (suc j)))) is in omega arith in
      record {
        formed = at_remove rows i (λ r w. IsNode mixed (suc j) (sets_over all j) w.node) (λ r w _ e. (kept j).formed r w e);
        hashed = at_remove rows i (λ r w. w.hash ≡ hash_of_node mixed w.node) (λ r w _ e. (kept j).hashed r w e);
        apart = λ r s w v er es same. at_remove rows i (λ r w. w.node ≡ v.node → r ≡ s)
            (λ r w _ e same. at_remove rows i (λ s v. w.node ≡ v.node → r ≡ s) (λ s v _ f is. (kept j).apart r s w v e f is) s v es same) r w er same;
        live = at_remove rows i (λ r w. 1 ≤ w.count) (λ r w _ e. (kept j).live r w e);
        fair = λ r. by_key total exact (λ _. edges_from (all (suc (suc j))) r ≤ count_of (map.get new r)) r i
            (λ is. let gone : edges_from (all (suc (suc j))) r ≡ 0 = ap (edges_from (all (suc (suc j)))) is ∙ unused in omega arith)
            (λ ne. subst (λ o. edges_from (all (suc (suc j))) r ≤ count_of o) (sym (get-remove_other total exact rows i r ne)) ((kept j).fair r));
        stands = λ r pos. ap (row_set (node_set (suc j) (sets_over all j))) (sym (get-remove_other total exact rows i r (used r pos)));
        enough = λ r. omega (arith, edges_remove rows i row at r, fair_at mixed all kept j r);
      }
