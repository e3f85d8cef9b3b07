-- Tables in which one table was replaced: the others are as they were.
use Rattle.std.specs.Prelude.{◌≡◌, ℕ, zero, suc, ◌≤◌, ◌≢◌, refl, Some}
use Rattle.std.proofs.Common.{◌∙◌, ap, subst, sym, arith}
use Rattle.std.specs.FinMap as map
use Rattle.node_table.specs.Table.{Row, Table}
use Rattle.trie_node.specs.declared.node.Node.{Node}
use Rattle.trie_context.specs.declared.tables.Tables.{Tables}
use Rattle.trie_context.specs.Rows.{table_at, put_table, row_of}
use Rattle.trie_context.specs.Holds.{RowsStay, SameReserved}
use Rattle.trie_context.specs.MoveLaws.{same_or_not}

module _ (t : Tables) where
  -- the table of another depth
  pub beside_put : (k : ℕ) (x : Table Node) (e : ℕ) → e ≢ k → table_at (put_table t k x) e ≡ table_at t e
  beside_put zero x e ne = refl
  beside_put (suc zero) x zero ne = refl
  beside_put (suc zero) x (suc zero) ne = absurd (ne refl)
  beside_put (suc zero) x (suc (suc zero)) ne = refl
  beside_put (suc zero) x (suc (suc (suc zero))) ne = refl
  beside_put (suc zero) x (suc (suc (suc (suc e)))) ne = refl
  beside_put (suc (suc zero)) x zero ne = refl
  beside_put (suc (suc zero)) x (suc zero) ne = refl
  beside_put (suc (suc zero)) x (suc (suc zero)) ne = absurd (ne refl)
  beside_put (suc (suc zero)) x (suc (suc (suc zero))) ne = refl
  beside_put (suc (suc zero)) x (suc (suc (suc (suc e)))) ne = refl
  beside_put (suc (suc (suc zero))) x zero ne = refl
  beside_put (suc (suc (suc zero))) x (suc zero) ne = refl
  beside_put (suc (suc (suc zero))) x (suc (suc zero)) ne = refl
  beside_put (suc (suc (suc zero))) x (suc (suc (suc zero))) ne = absurd (ne refl)
  beside_put (suc (suc (suc zero))) x (suc (suc (suc (suc e)))) ne = refl
  beside_put (suc (suc (suc (suc k)))) x e ne = refl

  -- the table that was put there
  pub here_put : (k : ℕ) → 1 ≤ k → k ≤ 3 → (x : Table Node) → table_at (put_table t k x) k ≡ x
  here_put zero low high x = absurd (omega arith)
  here_put (suc zero) low high x = refl
  here_put (suc (suc zero)) low high x = refl
  here_put (suc (suc (suc zero))) low high x = refl
  here_put (suc (suc (suc (suc k)))) low high x = absurd (omega arith)

-- the rows of tables that differ at one depth, and their reserved numbers
module _ (t v : Tables) (k : ℕ) (beside : (e : ℕ) → e ≢ k → table_at v e ≡ table_at t e) where
  pub came_by : ((r : ℕ) (row : Row Node) → row_of v k r ≡ Some row → (was : Row Node) × (row_of t k r ≡ Some was) × (was.node ≡ row.node)) → RowsStay v t
  came_by came e r row at = same_or_not e k _
      (λ is.
      let s = came r row (ap (λ d. row_of v d r) (sym is) ∙ at) in
      (s.0, ap (λ d. row_of t d r) is ∙ s.1, s.2))
      (λ ne. (row, sym (ap (λ (x : Table Node). map.get x.rows r) (beside e ne)) ∙ at, refl))

  pub reserved_by : (table_at v k).reserved ≡ (table_at t k).reserved → SameReserved t v
  reserved_by here e = same_or_not e k _
      (λ is. subst (λ d. (table_at v d).reserved ≡ (table_at t d).reserved) (sym is) here)
      (λ ne. ap (λ (x : Table Node). x.reserved) (beside e ne))
