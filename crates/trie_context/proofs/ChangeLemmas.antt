-- The rows of one depth replaced: what keeps all rows kept, and what becomes of the holds.
use Rattle.std.specs.Prelude.{◌≡◌, ℕ, zero, suc, ◌+◌, ◌-◌, ◌<◌, ◌≤◌, ◌≢◌, cond, nat_eq, refl, Option, None, Some}
use Rattle.std.proofs.Common.{sym, ◌∙◌, ap, subst, arith}
use Rattle.std.specs.Cmp.{nat_cmp_total as total}
use Rattle.std.specs.FinMap as map
use Rattle.std.specs.FinMap.{nat_cmp-IsAntisymmetric as exact}
use Rattle.hypertrie_model.specs.FoldLaws.{sum_over-part}
use Rattle.node_table.specs.Table.{Row}
use Rattle.trie_node.specs.declared.node.Node.{Node}
use Rattle.trie_node.specs.Sets.{edges_of, hash_of_node}
use Rattle.trie_context.specs.Rows.{Rows, node_set, row_set, sets_over}
use Rattle.trie_context.specs.Holds.{count_of, edges_from, holds_over, at_depth}
use Rattle.trie_context.specs.Kept.{IsNode, AreRowsKept, AllKept}
use Rattle.trie_context.specs.RowLaws.{node_same, node_set_same, counted}
use Rattle.trie_context.specs.MoveLaws.{if_other, if_same, same_or_not}

-- the rows of every depth with others at one
abbrev pub put_rows : (ℕ → Rows) → ℕ → Rows → ℕ → Rows
put_rows all k rows e = cond (nat_eq e k) rows (all e)

pub put_here : (all : ℕ → Rows) (k : ℕ) (rows : Rows) → put_rows all k rows k ≡ rows
put_here all k rows = if_same k k rows (all k) refl

pub put_other : (all : ℕ → Rows) (k : ℕ) (rows : Rows) (e : ℕ) → e ≢ k → put_rows all k rows e ≡ all e
put_other all k rows e ne = if_other e k rows (all e) ne

-- what is asked of the new rows, over the sets of the rows below as they were
pub record AreNext (mixed : ℕ → ℕ → ℕ → ℕ → ℕ) (all : ℕ → Rows) (j : ℕ) (rows : Rows) : Type 0 where
  pub formed : (r : ℕ) (row : Row Node) → map.get rows r ≡ Some row → IsNode mixed (suc j) (sets_over all j) row.node
  pub hashed : (r : ℕ) (row : Row Node) → map.get rows r ≡ Some row → row.hash ≡ hash_of_node mixed row.node
  pub apart : (r s : ℕ) (row other : Row Node) → map.get rows r ≡ Some row → map.get rows s ≡ Some other → row.node ≡ other.node → r ≡ s
  pub live : (r : ℕ) (row : Row Node) → map.get rows r ≡ Some row → 1 ≤ row.count
  pub fair : (r : ℕ) → edges_from (all (suc (suc j))) r ≤ count_of (map.get rows r)
  -- a row that edges lead to stands for the same set
  pub stands : (r : ℕ) → 0 < edges_from (all (suc (suc j))) r → row_set (node_set (suc j) (sets_over all j)) (map.get (all (suc j)) r) ≡ row_set (node_set (suc j) (sets_over all j)) (map.get rows r)
  -- the rows below have counts for the new edges
  pub enough : (r : ℕ) → edges_from rows r ≤ count_of (map.get (all j) r)

module _ (mixed : ℕ → ℕ → ℕ → ℕ → ℕ) (all : ℕ → Rows) (kept : AllKept mixed all) (j : ℕ) (rows : Rows) where
  new_all : ℕ → Rows
  new_all = put_rows all (suc j) rows

  beside : (e : ℕ) → e ≢ suc j → put_rows all (suc j) rows e ≡ all e
  beside e ne = put_other all (suc j) rows e ne

  below_same : (e : ℕ) → e ≤ j → sets_over all e ≡ sets_over (put_rows all (suc j) rows) e
  below_same zero le = refl
  below_same (suc e) le = λ i r. row_set (node_set (suc e) (below_same e (omega arith) i)) (map.get (sym (beside (suc e) (λ is. omega arith)) i) r)

  module _ (next : AreNext mixed all j rows) where
    changed : (r : ℕ) → 0 < edges_from (all (suc (suc j))) r → sets_over all (suc j) r ≡ sets_over (put_rows all (suc j) rows) (suc j) r
    changed r pos =
        next.stands r pos
        ∙ (λ i. row_set (node_set (suc j) (below_same j (omega arith) i)) (map.get (sym (put_here all (suc j) rows) i) r))

    -- a row of another depth, whose edges lead to rows that stand for the same
    row_same : (d r : ℕ) → ((q : ℕ) → 0 < edges_from (all (suc d)) q → sets_over all d q ≡ sets_over (put_rows all (suc j) rows) d q) → (o : Option (Row Node)) → map.get (all (suc d)) r ≡ o
        → row_set (node_set (suc d) (sets_over all d)) o ≡ row_set (node_set (suc d) (sets_over (put_rows all (suc j) rows) d)) o
    row_same d r below None at = refl
    row_same d r below (Some row) at =
        node_set_same (suc d) (sets_over all d) (sets_over (put_rows all (suc j) rows) d) row.node
        (λ q edge. below q (omega (arith, edge, sum_over-part total exact (all (suc d)) (λ _ w. edges_of w.node q) r row at)))

    used_step : (d : ℕ) → ((q : ℕ) → 0 < edges_from (all (suc d)) q → sets_over all d q ≡ sets_over (put_rows all (suc j) rows) d q)
        → (r : ℕ) → 0 < edges_from (all (suc (suc d))) r → sets_over all (suc d) r ≡ sets_over (put_rows all (suc j) rows) (suc d) r
    used_step d below r pos = same_or_not d j _
        (λ is. subst (λ e. 0 < edges_from (all (suc (suc e))) r → sets_over all (suc e) r ≡ sets_over (put_rows all (suc j) rows) (suc e) r) (sym is) (changed r) pos)
        (λ ne. row_same d r below (map.get (all (suc d)) r) refl ∙ ap (λ m. row_set (node_set (suc d) (sets_over (put_rows all (suc j) rows) d)) (map.get m r)) (sym (beside (suc d) (λ is. ne (less is))))) where
          less : suc d ≡ suc j → d ≡ j
          less is = omega arith

    -- each row that edges lead to stands for the same set
    used_same : (d r : ℕ) → 0 < edges_from (all (suc d)) r → sets_over all d r ≡ sets_over (put_rows all (suc j) rows) d r
    used_same zero r pos = refl
    used_same (suc d) r pos = used_step d (used_same d) r pos

    here_kept : AreRowsKept mixed (put_rows all (suc j) rows) j
    here_kept =
        let here = put_here all (suc j) rows in
        let above = beside (suc (suc j)) (λ is. omega arith) in
        record {
          formed = λ r row at. subst (λ low. IsNode mixed (suc j) low row.node) (below_same j (omega arith)) (next.formed r row (ap (λ m. map.get m r) (sym here) ∙ at));
          hashed = λ r row at. next.hashed r row (ap (λ m. map.get m r) (sym here) ∙ at);
          apart = λ r s row other at too. next.apart r s row other (ap (λ m. map.get m r) (sym here) ∙ at) (ap (λ m. map.get m s) (sym here) ∙ too);
          live = λ r row at. next.live r row (ap (λ m. map.get m r) (sym here) ∙ at);
          fair = λ r. subst (λ m. edges_from m r ≤ count_of (map.get (put_rows all (suc j) rows (suc j)) r)) (sym above) (subst (λ m. edges_from (all (suc (suc j))) r ≤ count_of (map.get m r)) (sym here) (next.fair r));
        }

    beside_kept : (d : ℕ) → d ≢ j → AreRowsKept mixed (put_rows all (suc j) rows) d
    beside_kept d ne =
        let stay = beside (suc d) (λ is. ne (less is)) in
        record {
          formed = λ r row at.
              let old : map.get (all (suc d)) r ≡ Some row = ap (λ m. map.get m r) (sym stay) ∙ at in
              node_same mixed (suc d) (sets_over all d) (sets_over (put_rows all (suc j) rows) d) row.node
              (λ q edge. used_same d q (omega (arith, edge, sum_over-part total exact (all (suc d)) (λ _ w. edges_of w.node q) r row old)))
              ((kept d).formed r row old);
          hashed = λ r row at. (kept d).hashed r row (ap (λ m. map.get m r) (sym stay) ∙ at);
          apart = λ r s row other at too. (kept d).apart r s row other (ap (λ m. map.get m r) (sym stay) ∙ at) (ap (λ m. map.get m s) (sym stay) ∙ too);
          live = λ r row at. (kept d).live r row (ap (λ m. map.get m r) (sym stay) ∙ at);
          fair = λ r. subst (λ m. edges_from (put_rows all (suc j) rows (suc (suc d))) r ≤ count_of (map.get m r)) (sym stay)
              (same_or_not (suc d) j _
              (λ is. subst (λ m. edges_from m r ≤ count_of (map.get (all (suc d)) r)) (sym (ap (λ e. put_rows all (suc j) rows (suc e)) is ∙ put_here all (suc j) rows)) (subst (λ e. edges_from rows r ≤ count_of (map.get (all e) r)) (sym is) (next.enough r)))
              (λ off. subst (λ m. edges_from m r ≤ count_of (map.get (all (suc d)) r)) (sym (beside (suc (suc d)) (λ is. off (less is)))) ((kept d).fair r)));
        } where
          less : {x y : ℕ} → suc x ≡ suc y → x ≡ y
          less is = omega arith

    pub put_kept : AllKept mixed (put_rows all (suc j) rows)
    put_kept d = same_or_not d j _ (λ is. subst (AreRowsKept mixed (put_rows all (suc j) rows)) (sym is) here_kept) (beside_kept d)

    -- the holds of the depth and of the one below
    holds_here : (r : ℕ) → holds_over (put_rows all (suc j) rows) (suc j) r + edges_from (all (suc (suc j))) r ≡ count_of (map.get rows r)
    holds_here r =
        let here : count_of (map.get (put_rows all (suc j) rows (suc j)) r) ≡ count_of (map.get rows r) = ap (λ m. count_of (map.get m r)) (put_here all (suc j) rows) in
        let above : edges_from (put_rows all (suc j) rows (suc (suc j))) r ≡ edges_from (all (suc (suc j))) r = ap (λ m. edges_from m r) (beside (suc (suc j)) (λ is. omega arith)) in
        let fair = next.fair r in
        omega arith

    holds_below : (r : ℕ) → holds_over (put_rows all (suc j) rows) j r + edges_from rows r ≡ count_of (map.get (all j) r)
    holds_below r =
        let count : count_of (map.get (put_rows all (suc j) rows j) r) ≡ count_of (map.get (all j) r) = ap (λ m. count_of (map.get m r)) (beside j (λ is. omega arith)) in
        let here : edges_from (put_rows all (suc j) rows (suc j)) r ≡ edges_from rows r = ap (λ m. edges_from m r) (put_here all (suc j) rows) in
        let enough = next.enough r in
        omega arith

    holds_else : (e r : ℕ) → e ≢ suc j → e ≢ j → holds_over (put_rows all (suc j) rows) e r ≡ holds_over all e r
    holds_else e r off below = λ i. count_of (map.get (beside e off i) r) - edges_from (beside (suc e) (λ is. below (less is)) i) r where
      less : {x y : ℕ} → suc x ≡ suc y → x ≡ y
      less is = omega arith

    -- what counts and edges gain and lose is what holds do
    pub put_holds : (gained given more less : ℕ → ℕ) → ((r : ℕ) → count_of (map.get rows r) + given r ≡ count_of (map.get (all (suc j)) r) + gained r) → ((r : ℕ) → edges_from rows r + less r ≡ edges_from (all (suc j)) r + more r)
        → (e r : ℕ) → holds_over (put_rows all (suc j) rows) e r + (at_depth (suc j) given e r + at_depth j more e r) ≡ holds_over all e r + (at_depth (suc j) gained e r + at_depth j less e r)
    put_holds gained given more less counts edges e r = same_or_not e (suc j) _
        (λ is. subst (λ d. holds_over (put_rows all (suc j) rows) d r + (at_depth (suc j) given d r + at_depth j more d r) ≡ holds_over all d r + (at_depth (suc j) gained d r + at_depth j less d r)) (sym is)
        (let a = holds_here r in let b = counted mixed all kept (suc j) r in let c = counts r in
        let p = if_same (suc j) (suc j) (given r) 0 refl in let q = if_same (suc j) (suc j) (gained r) 0 refl in
        let u = if_other (suc j) j (more r) 0 apart in let v = if_other (suc j) j (less r) 0 apart in omega arith))
        (λ off. same_or_not e j _
        (λ is. subst (λ d. holds_over (put_rows all (suc j) rows) d r + (at_depth (suc j) given d r + at_depth j more d r) ≡ holds_over all d r + (at_depth (suc j) gained d r + at_depth j less d r)) (sym is)
        (let a = holds_below r in let b = counted mixed all kept j r in let c = edges r in
        let p = if_other j (suc j) (given r) 0 (λ same. apart (sym same)) in let q = if_other j (suc j) (gained r) 0 (λ same. apart (sym same)) in
        let u = if_same j j (more r) 0 refl in let v = if_same j j (less r) 0 refl in omega arith))
        (λ below.
        let a = holds_else e r off below in
        let p = if_other e (suc j) (given r) 0 off in let q = if_other e (suc j) (gained r) 0 off in
        let u = if_other e j (more r) 0 below in let v = if_other e j (less r) 0 below in omega arith)) where
          apart : suc j ≢ j
          apart is = omega arith
