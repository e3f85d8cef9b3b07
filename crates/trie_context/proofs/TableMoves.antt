-- One row of the tables counted anew, added or taken out: the tables stay kept, and the holds move by it.
use Rattle.std.specs.Prelude.{◌≡◌, ℕ, zero, suc, ◌+◌, ◌-◌, ◌<◌, ◌≤◌, ◌≢◌, refl, None, Some}
use Rattle.std.proofs.Common.{sym, ◌∙◌, ap, subst, arith}
use Rattle.std.specs.Cmp.{nat_cmp_total as total}
use Rattle.std.specs.FinMap as map
use Rattle.std.specs.FinMap.{nat_cmp-IsAntisymmetric as exact}
use Rattle.hypertrie_model.specs.MapLaws.{by_key, get-insert_here, get-insert_other, get-remove_other, get-remove_here}
use Rattle.node_table.specs.Table.{Row, Table, with_row, without_row, HasNoNode}
use Rattle.trie_node.specs.declared.node.Node.{Node}
use Rattle.trie_node.specs.Sets.{edges_of, hash_of_node}
use Rattle.trie_context.specs.declared.tables.Tables.{Tables}
use Rattle.trie_context.specs.Rows.{Rows, table_at, put_table, rows_at, row_of, set_of}
use Rattle.trie_context.specs.Holds.{count_of, edges_from, holds_over, holds_of, one_at, at_depth, nothing, CountsRiseBy, RowsStay, SameReserved}
use Rattle.trie_context.specs.Kept.{IsNode, AllKept, AreKept, AreMoved}
use Rattle.trie_context.specs.RowLaws.{counted}
use Rattle.trie_context.specs.MoveLaws.{from_one, less_one, if_other, if_same, moved_as, same_or_not, zero_at}
use Rattle.trie_context.proofs.ChangeLemmas.{AreNext, put_rows, put_here, put_other, put_kept, put_holds}
use Rattle.trie_context.proofs.RowChanges.{at_insert, at_remove, count_insert, count_remove, edges_count, edges_insert, edges_remove, next_count, next_add, next_remove}

module _ (t : Tables) where
  rows_put : (j : ℕ) → suc j ≤ 3 → (x : Table Node) (e : ℕ) → rows_at (put_table t (suc j) x) e ≡ put_rows (rows_at t) (suc j) x.rows e
  rows_put zero le x zero = sym (put_other (rows_at t) 1 x.rows 0 (λ is. omega arith))
  rows_put zero le x (suc zero) = sym (put_here (rows_at t) 1 x.rows)
  rows_put zero le x (suc (suc zero)) = sym (put_other (rows_at t) 1 x.rows 2 (λ is. omega arith))
  rows_put zero le x (suc (suc (suc zero))) = sym (put_other (rows_at t) 1 x.rows 3 (λ is. omega arith))
  rows_put zero le x (suc (suc (suc (suc e)))) = sym (put_other (rows_at t) 1 x.rows (suc (suc (suc (suc e)))) (λ is. omega arith))
  rows_put (suc zero) le x zero = sym (put_other (rows_at t) 2 x.rows 0 (λ is. omega arith))
  rows_put (suc zero) le x (suc zero) = sym (put_other (rows_at t) 2 x.rows 1 (λ is. omega arith))
  rows_put (suc zero) le x (suc (suc zero)) = sym (put_here (rows_at t) 2 x.rows)
  rows_put (suc zero) le x (suc (suc (suc zero))) = sym (put_other (rows_at t) 2 x.rows 3 (λ is. omega arith))
  rows_put (suc zero) le x (suc (suc (suc (suc e)))) = sym (put_other (rows_at t) 2 x.rows (suc (suc (suc (suc e)))) (λ is. omega arith))
  rows_put (suc (suc zero)) le x zero = sym (put_other (rows_at t) 3 x.rows 0 (λ is. omega arith))
  rows_put (suc (suc zero)) le x (suc zero) = sym (put_other (rows_at t) 3 x.rows 1 (λ is. omega arith))
  rows_put (suc (suc zero)) le x (suc (suc zero)) = sym (put_other (rows_at t) 3 x.rows 2 (λ is. omega arith))
  rows_put (suc (suc zero)) le x (suc (suc (suc zero))) = sym (put_here (rows_at t) 3 x.rows)
  rows_put (suc (suc zero)) le x (suc (suc (suc (suc e)))) = sym (put_other (rows_at t) 3 x.rows (suc (suc (suc (suc e)))) (λ is. omega arith))
  rows_put (suc (suc (suc j))) le x e = absurd (omega arith)

  -- the table of another depth
  pub beside_put : (k : ℕ) (x : Table Node) (e : ℕ) → e ≢ k → table_at (put_table t k x) e ≡ table_at t e
  beside_put zero x e ne = refl
  beside_put (suc zero) x zero ne = refl
  beside_put (suc zero) x (suc zero) ne = absurd (ne refl)
  beside_put (suc zero) x (suc (suc zero)) ne = refl
  beside_put (suc zero) x (suc (suc (suc zero))) ne = refl
  beside_put (suc zero) x (suc (suc (suc (suc e)))) ne = refl
  beside_put (suc (suc zero)) x zero ne = refl
  beside_put (suc (suc zero)) x (suc zero) ne = refl
  beside_put (suc (suc zero)) x (suc (suc zero)) ne = absurd (ne refl)
  beside_put (suc (suc zero)) x (suc (suc (suc zero))) ne = refl
  beside_put (suc (suc zero)) x (suc (suc (suc (suc e)))) ne = refl
  beside_put (suc (suc (suc zero))) x zero ne = refl
  beside_put (suc (suc (suc zero))) x (suc zero) ne = refl
  beside_put (suc (suc (suc zero))) x (suc (suc zero)) ne = refl
  beside_put (suc (suc (suc zero))) x (suc (suc (suc zero))) ne = absurd (ne refl)
  beside_put (suc (suc (suc zero))) x (suc (suc (suc (suc e)))) ne = refl
  beside_put (suc (suc (suc (suc k)))) x e ne = refl

  pub here_put : (j : ℕ) → suc j ≤ 3 → (x : Table Node) → table_at (put_table t (suc j) x) (suc j) ≡ x
  here_put zero le x = refl
  here_put (suc zero) le x = refl
  here_put (suc (suc zero)) le x = refl
  here_put (suc (suc (suc j))) le x = absurd (omega arith)

  reserved_put : (j : ℕ) → suc j ≤ 3 → (x : Table Node) → x.reserved ≡ (table_at t (suc j)).reserved → SameReserved t (put_table t (suc j) x)
  reserved_put j le x same e = same_or_not e (suc j) _
      (λ is. subst (λ d. (table_at (put_table t (suc j) x) d).reserved ≡ (table_at t d).reserved) (sym is) (ap (λ (y : Table Node). y.reserved) (here_put j le x) ∙ same))
      (λ ne. ap (λ (y : Table Node). y.reserved) (beside_put (suc j) x e ne))

  -- rows that stay at the depth stay in the tables
  pub stay_put : (j : ℕ) → suc j ≤ 3 → (x : Table Node) → ((r : ℕ) (row : Row Node) → row_of t (suc j) r ≡ Some row → (now : Row Node) × (map.get x.rows r ≡ Some now) × (now.node ≡ row.node)) → RowsStay t (put_table t (suc j) x)
  stay_put j le x stay e r row at = same_or_not e (suc j) _
      (λ is. let s = stay r row (ap (λ d. row_of t d r) (sym is) ∙ at) in
      (s.0, ap (λ d. row_of (put_table t (suc j) x) d r) is ∙ ap (λ (y : Table Node). map.get y.rows r) (here_put j le x) ∙ s.1, s.2))
      (λ ne. (row, ap (λ (y : Table Node). map.get y.rows r) (beside_put (suc j) x e ne) ∙ at, refl))

  pub came_put : (j : ℕ) → suc j ≤ 3 → (x : Table Node) → ((r : ℕ) (row : Row Node) → map.get x.rows r ≡ Some row → (was : Row Node) × (row_of t (suc j) r ≡ Some was) × (was.node ≡ row.node)) → RowsStay (put_table t (suc j) x) t
  came_put j le x came e r row at = same_or_not e (suc j) _
      (λ is. let s = came r row (sym (ap (λ (y : Table Node). map.get y.rows r) (here_put j le x)) ∙ ap (λ d. row_of (put_table t (suc j) x) d r) (sym is) ∙ at) in
      (s.0, ap (λ d. row_of t d r) is ∙ s.1, s.2))
      (λ ne. (row, sym (ap (λ (y : Table Node). map.get y.rows r) (beside_put (suc j) x e ne)) ∙ at, refl))

  module _ (mixed : ℕ → ℕ → ℕ → ℕ → ℕ) (kept : AreKept mixed t) where
    -- what counts and edges gain and lose at two depths
    abbrev Both : ℕ → (ℕ → ℕ) → (ℕ → ℕ) → ℕ → ℕ → ℕ
    Both j here below e r = at_depth (suc j) here e r + at_depth j below e r

    put_moved : (j : ℕ) → suc j ≤ 3 → (x : Table Node) → x.reserved ≡ (table_at t (suc j)).reserved → AreNext mixed (rows_at t) j x.rows
        → (gained given more less : ℕ → ℕ) → ((r : ℕ) → count_of (map.get x.rows r) + given r ≡ count_of (row_of t (suc j) r) + gained r) → ((r : ℕ) → edges_from x.rows r + less r ≡ edges_from (rows_at t (suc j)) r + more r)
        → AreMoved mixed t (put_table t (suc j) x) (Both j gained less) (Both j given more)
    put_moved j le x reserved next gained given more less counts edges =
        let is : rows_at (put_table t (suc j) x) ≡ put_rows (rows_at t) (suc j) x.rows = λ i e. rows_put j le x e i in
        record {
          kept = subst (AllKept mixed) (sym is) (put_kept mixed (rows_at t) kept j x.rows next);
          holds = λ e r. ap (λ all. holds_over all e r + (at_depth (suc j) given e r + at_depth j more e r)) is ∙ put_holds mixed (rows_at t) kept j x.rows next gained given more less counts edges e r;
          reserved = reserved_put j le x reserved;
        }

module _ (mixed : ℕ → ℕ → ℕ → ℕ → ℕ) (t : Tables) (kept : AreKept mixed t) (k : ℕ) (low : 1 ≤ k) (high : k ≤ 3) (i : ℕ) where
  pub bumped : (row : Row Node) → row_of t k i ≡ Some row → (u : Tables) → u ≡ put_table t k (with_row (table_at t k) i (record row { count = row.count + 1 })) → AreMoved mixed t u (at_depth k (one_at i)) nothing
  bumped row at u is = subst (λ v. AreMoved mixed t v (at_depth k (one_at i)) nothing) (sym is)
      (from_one (λ k. k ≤ 3 → row_of t k i ≡ Some row → AreMoved mixed t (put_table t k (with_row (table_at t k) i (record row { count = row.count + 1 }))) (at_depth k (one_at i)) nothing) k low
      (λ j le at. moved_as
      (put_moved t mixed kept j le _ refl (next_count mixed (rows_at t) kept j i (row.count + 1) row at (omega arith) (omega (arith, (kept j).fair i, ap count_of at)))
      (one_at i) (λ _. 0) (λ _. 0) (λ _. 0)
      (count_insert (rows_at t (suc j)) i (record row { count = row.count + 1 }) (λ _. 0) (one_at i)
      (let c : count_of (row_of t (suc j) i) ≡ row.count = ap count_of at in let o : one_at i i ≡ 1 = if_same i i 1 0 refl in omega arith)
      (λ r ne. if_other r i 1 0 ne))
      (edges_count (rows_at t (suc j)) i (row.count + 1) row at))
      (at_depth (suc j) (one_at i)) nothing
      (λ d r. omega (arith, zero_at (suc j) d r, zero_at j d r))) high at)

  pub lowered : (row : Row Node) → row_of t k i ≡ Some row → 1 ≤ holds_of t k i → 1 < row.count → (u : Tables) → u ≡ put_table t k (with_row (table_at t k) i (record row { count = row.count - 1 })) → AreMoved mixed t u nothing (at_depth k (one_at i))
  lowered row at held more u is = subst (λ v. AreMoved mixed t v nothing (at_depth k (one_at i))) (sym is)
      (from_one (λ k. k ≤ 3 → row_of t k i ≡ Some row → 1 ≤ holds_of t k i → AreMoved mixed t (put_table t k (with_row (table_at t k) i (record row { count = row.count - 1 }))) nothing (at_depth k (one_at i))) k low
      (λ j le at held. moved_as
      (put_moved t mixed kept j le _ refl (next_count mixed (rows_at t) kept j i (row.count - 1) row at (omega arith) (omega (arith, counted mixed (rows_at t) kept (suc j) i, ap count_of at, held)))
      (λ _. 0) (one_at i) (λ _. 0) (λ _. 0)
      (λ r. lowered_count (rows_at t (suc j)) at r)
      (edges_count (rows_at t (suc j)) i (row.count - 1) row at))
      nothing (at_depth (suc j) (one_at i))
      (λ d r. omega (arith, zero_at (suc j) d r, zero_at j d r))) high at held) where
        lowered_count : (rows : Rows) → map.get rows i ≡ Some row → (r : ℕ) → count_of (map.get (map.insert rows i (record row { count = row.count - 1 })) r) + one_at i r ≡ count_of (map.get rows r) + 0
        lowered_count rows at r = count_insert rows i (record row { count = row.count - 1 }) (one_at i) (λ _. 0)
            (let c : count_of (map.get rows i) ≡ row.count = ap count_of at in let o : one_at i i ≡ 1 = if_same i i 1 0 refl in omega arith)
            (λ r ne. sym (if_other r i 1 0 ne)) r

  pub dropped : (row : Row Node) → row_of t k i ≡ Some row → 1 ≤ holds_of t k i → row.count ≡ 1 → (u : Tables) → u ≡ put_table t k (without_row (table_at t k) i) → AreMoved mixed t u (at_depth (k - 1) (edges_of row.node)) (at_depth k (one_at i))
  dropped row at held last u is = subst (λ v. AreMoved mixed t v (at_depth (k - 1) (edges_of row.node)) (at_depth k (one_at i))) (sym is)
      (from_one (λ k. k ≤ 3 → row_of t k i ≡ Some row → 1 ≤ holds_of t k i → AreMoved mixed t (put_table t k (without_row (table_at t k) i)) (at_depth (k - 1) (edges_of row.node)) (at_depth k (one_at i))) k low
      (λ j le at held. subst (λ l. AreMoved mixed t (put_table t (suc j) (without_row (table_at t (suc j)) i)) (at_depth l (edges_of row.node)) (at_depth (suc j) (one_at i))) (less_one j)
      (moved_as
      (put_moved t mixed kept j le _ refl (next_remove mixed (rows_at t) kept j i row at (omega (arith, counted mixed (rows_at t) kept (suc j) i, ap count_of at, held)))
      (λ _. 0) (one_at i) (λ _. 0) (edges_of row.node)
      (λ r. count_remove (rows_at t (suc j)) i r (ap count_of at ∙ last))
      (edges_remove (rows_at t (suc j)) i row at))
      (at_depth j (edges_of row.node)) (at_depth (suc j) (one_at i))
      (λ d r. omega (arith, zero_at (suc j) d r, zero_at j d r)))) high at held)

  pub added : (node : Node) (hash : ℕ) → row_of t k i ≡ None → IsNode mixed k (set_of t (k - 1)) node → HasNoNode (table_at t k) node → ((r : ℕ) → edges_of node r ≤ holds_of t (k - 1) r) → hash ≡ hash_of_node mixed node
      → (u : Tables) → u ≡ put_table t k (with_row (table_at t k) i (record { node = node; count = 1; hash = hash })) → AreMoved mixed t u (at_depth k (one_at i)) (at_depth (k - 1) (edges_of node))
  added node hash none form fresh held hashed u is = subst (λ v. AreMoved mixed t v (at_depth k (one_at i)) (at_depth (k - 1) (edges_of node))) (sym (is ∙ ap (λ h. put_table t k (with_row (table_at t k) i (record { node = node; count = 1; hash = h }))) hashed))
      (from_one (λ k. k ≤ 3 → row_of t k i ≡ None → IsNode mixed k (set_of t (k - 1)) node → HasNoNode (table_at t k) node → ((r : ℕ) → edges_of node r ≤ holds_of t (k - 1) r)
      → AreMoved mixed t (put_table t k (with_row (table_at t k) i (record { node = node; count = 1; hash = hash_of_node mixed node }))) (at_depth k (one_at i)) (at_depth (k - 1) (edges_of node))) k low
      (λ j le none form fresh held. subst (λ l. AreMoved mixed t (put_table t (suc j) (with_row (table_at t (suc j)) i (record { node = node; count = 1; hash = hash_of_node mixed node }))) (at_depth (suc j) (one_at i)) (at_depth l (edges_of node))) (less_one j)
      (moved_as
      (put_moved t mixed kept j le _ refl (next_add mixed (rows_at t) kept j i node none
      (subst (λ l. IsNode mixed (suc j) (set_of t l) node) (sym (less_one j)) form) fresh
      (λ r. subst (λ l. edges_of node r ≤ holds_of t l r) (sym (less_one j)) (held r)))
      (one_at i) (λ _. 0) (edges_of node) (λ _. 0)
      (count_insert (rows_at t (suc j)) i (record { node = node; count = 1; hash = hash_of_node mixed node }) (λ _. 0) (one_at i)
      (let c : count_of (row_of t (suc j) i) ≡ 0 = ap count_of none in let o : one_at i i ≡ 1 = if_same i i 1 0 refl in omega arith)
      (λ r ne. if_other r i 1 0 ne))
      (edges_insert (rows_at t (suc j)) i (record { node = node; count = 1; hash = hash_of_node mixed node }) none))
      (at_depth (suc j) (one_at i)) (at_depth j (edges_of node))
      (λ d r. omega (arith, zero_at (suc j) d r, zero_at j d r)))) high none form fresh held)

-- how far counts rise by a change of one row
module _ (t : Tables) where
  counts_put : (j : ℕ) → suc j ≤ 3 → (x : Table Node) → (most : ℕ → ℕ) → ((r : ℕ) → count_of (map.get x.rows r) ≤ count_of (row_of t (suc j) r) + most r) → CountsRiseBy t (put_table t (suc j) x) (at_depth (suc j) most)
  counts_put j le x most here e r = same_or_not e (suc j) _
      (λ is. subst (λ d. count_of (row_of (put_table t (suc j) x) d r) ≤ count_of (row_of t d r) + at_depth (suc j) most d r) (sym is)
      (let a : count_of (row_of (put_table t (suc j) x) (suc j) r) ≡ count_of (map.get x.rows r) = ap (λ (y : Table Node). count_of (map.get y.rows r)) (here_put t j le x) in
      let m = if_same (suc j) (suc j) (most r) 0 refl in let h = here r in omega arith))
      (λ ne. let a : count_of (row_of (put_table t (suc j) x) e r) ≡ count_of (row_of t e r) = ap (λ (y : Table Node). count_of (map.get y.rows r)) (beside_put t (suc j) x e ne) in omega arith)

  -- a row under i, with a count at most one or none above the old one
  pub insert_counts : (k : ℕ) → 1 ≤ k → k ≤ 3 → (i : ℕ) (row : Row Node) → row.count ≤ count_of (row_of t k i) + 1 → CountsRiseBy t (put_table t k (with_row (table_at t k) i row)) (at_depth k (one_at i))
  insert_counts k low high i row few = from_one (λ k. k ≤ 3 → row.count ≤ count_of (row_of t k i) + 1 → CountsRiseBy t (put_table t k (with_row (table_at t k) i row)) (at_depth k (one_at i))) k low
      (λ j le few. counts_put j le _ (one_at i) (λ r. same_or_not r i _
      (λ is. subst (λ q. count_of (map.get (map.insert (rows_at t (suc j)) i row) q) ≤ count_of (row_of t (suc j) q) + one_at i q) (sym is)
      (let c : count_of (map.get (map.insert (rows_at t (suc j)) i row) i) ≡ row.count = ap count_of (get-insert_here total exact (rows_at t (suc j)) i row) in let o : one_at i i ≡ 1 = if_same i i 1 0 refl in omega arith))
      (λ ne. let c : count_of (map.get (map.insert (rows_at t (suc j)) i row) r) ≡ count_of (row_of t (suc j) r) = ap count_of (get-insert_other total exact (rows_at t (suc j)) i row r ne) in omega arith))) high few

  zero_counts : (k : ℕ) (u : Tables) → CountsRiseBy t u (at_depth k (λ _. 0)) → CountsRiseBy t u nothing
  zero_counts k u rise d r = omega (arith, rise d r, zero_at k d r)

  pub lower_counts : (k : ℕ) → 1 ≤ k → k ≤ 3 → (i : ℕ) (row : Row Node) → row.count ≤ count_of (row_of t k i) → CountsRiseBy t (put_table t k (with_row (table_at t k) i row)) nothing
  lower_counts k low high i row few = from_one (λ k. k ≤ 3 → row.count ≤ count_of (row_of t k i) → CountsRiseBy t (put_table t k (with_row (table_at t k) i row)) nothing) k low
      (λ j le few. zero_counts (suc j) (put_table t (suc j) (with_row (table_at t (suc j)) i row)) (counts_put j le _ (λ _. 0) (λ r. same_or_not r i _
      (λ is. subst (λ q. count_of (map.get (map.insert (rows_at t (suc j)) i row) q) ≤ count_of (row_of t (suc j) q) + 0) (sym is)
      (let c : count_of (map.get (map.insert (rows_at t (suc j)) i row) i) ≡ row.count = ap count_of (get-insert_here total exact (rows_at t (suc j)) i row) in omega arith))
      (λ ne. let c : count_of (map.get (map.insert (rows_at t (suc j)) i row) r) ≡ count_of (row_of t (suc j) r) = ap count_of (get-insert_other total exact (rows_at t (suc j)) i row r ne) in omega arith)))) high few

  pub drop_counts : (k : ℕ) → 1 ≤ k → k ≤ 3 → (i : ℕ) → CountsRiseBy t (put_table t k (without_row (table_at t k) i)) nothing
  drop_counts k low high i = from_one (λ k. k ≤ 3 → CountsRiseBy t (put_table t k (without_row (table_at t k) i)) nothing) k low
      (λ j le. zero_counts (suc j) (put_table t (suc j) (without_row (table_at t (suc j)) i)) (counts_put j le _ (λ _. 0) (λ r. same_or_not r i _
      (λ is. let c : count_of (map.get (map.remove (rows_at t (suc j)) i) r) ≡ 0 = ap (λ q. count_of (map.get (map.remove (rows_at t (suc j)) i) q)) is ∙ ap count_of (get-remove_here total exact (rows_at t (suc j)) i) in omega arith)
      (λ ne. let c : count_of (map.get (map.remove (rows_at t (suc j)) i) r) ≡ count_of (row_of t (suc j) r) = ap count_of (get-remove_other total exact (rows_at t (suc j)) i r ne) in omega arith)))) high

-- which rows there are after a change of one
module _ (t : Tables) (k : ℕ) (low : 1 ≤ k) (high : k ≤ 3) (i : ℕ) where
  counted_stay : (n : ℕ) (row : Row Node) (rows : Rows) → map.get rows i ≡ Some row → (r : ℕ) (old : Row Node) → map.get rows r ≡ Some old → (now : Row Node) × (map.get (map.insert rows i (record row { count = n })) r ≡ Some now) × (now.node ≡ old.node)
  counted_stay n row rows at r old there = by_key total exact (λ _. (now : Row Node) × (map.get (map.insert rows i (record row { count = n })) r ≡ Some now) × (now.node ≡ old.node)) r i
      (λ is. (record row { count = n }, ap (map.get (map.insert rows i (record row { count = n }))) is ∙ get-insert_here total exact rows i (record row { count = n }), same_node row old (sym at ∙ ap (map.get rows) (sym is) ∙ there)))
      (λ ne. (old, get-insert_other total exact rows i (record row { count = n }) r ne ∙ there, refl)) where
        same_node : (x y : Row Node) → Some x ≡ Some y → x.node ≡ y.node
        same_node x y e = let is : x ≡ y = cc in ap (λ (z : Row Node). z.node) is

  counted_came : (n : ℕ) (row : Row Node) (rows : Rows) → map.get rows i ≡ Some row → (r : ℕ) (now : Row Node) → map.get (map.insert rows i (record row { count = n })) r ≡ Some now → (was : Row Node) × (map.get rows r ≡ Some was) × (was.node ≡ now.node)
  counted_came n row rows at = at_insert rows i (record row { count = n }) (λ r now. (was : Row Node) × (map.get rows r ≡ Some was) × (was.node ≡ now.node)) (row, at, refl) (λ r now _ there. (now, there, refl))

  pub count_stays : (n : ℕ) (row : Row Node) → row_of t k i ≡ Some row → RowsStay t (put_table t k (with_row (table_at t k) i (record row { count = n })))
  count_stays n row at = from_one (λ k. k ≤ 3 → row_of t k i ≡ Some row → RowsStay t (put_table t k (with_row (table_at t k) i (record row { count = n })))) k low
      (λ j le at. stay_put t j le _ (counted_stay n row (rows_at t (suc j)) at)) high at

  pub count_came : (n : ℕ) (row : Row Node) → row_of t k i ≡ Some row → RowsStay (put_table t k (with_row (table_at t k) i (record row { count = n }))) t
  count_came n row at = from_one (λ k. k ≤ 3 → row_of t k i ≡ Some row → RowsStay (put_table t k (with_row (table_at t k) i (record row { count = n }))) t) k low
      (λ j le at. came_put t j le _ (counted_came n row (rows_at t (suc j)) at)) high at

  pub drop_came : RowsStay (put_table t k (without_row (table_at t k) i)) t
  drop_came = from_one (λ k. k ≤ 3 → RowsStay (put_table t k (without_row (table_at t k) i)) t) k low
      (λ j le. came_put t j le _ (at_remove (rows_at t (suc j)) i (λ r now. (was : Row Node) × (row_of t (suc j) r ≡ Some was) × (was.node ≡ now.node)) (λ r now _ there. (now, there, refl)))) high

  pub add_stays : (row : Row Node) → row_of t k i ≡ None → RowsStay t (put_table t k (with_row (table_at t k) i row))
  add_stays row none = from_one (λ k. k ≤ 3 → row_of t k i ≡ None → RowsStay t (put_table t k (with_row (table_at t k) i row))) k low
      (λ j le none. stay_put t j le _ (λ r old there. (old, get-insert_other total exact (rows_at t (suc j)) i row r (apart (rows_at t (suc j)) none r old there) ∙ there, refl))) high none where
        apart : (rows : Rows) → map.get rows i ≡ None → (r : ℕ) (old : Row Node) → map.get rows r ≡ Some old → r ≢ i
        apart rows none r old there is = let f : None ≡ Some old = sym none ∙ ap (map.get rows) (sym is) ∙ there in cc

  -- the row that was put in
  pub put_row : (row : Row Node) → row_of (put_table t k (with_row (table_at t k) i row)) k i ≡ Some row
  put_row row = from_one (λ k. k ≤ 3 → row_of (put_table t k (with_row (table_at t k) i row)) k i ≡ Some row) k low
      (λ j le. ap (λ (y : Table Node). map.get y.rows i) (here_put t j le (with_row (table_at t (suc j)) i row)) ∙ get-insert_here total exact (rows_at t (suc j)) i row) high
