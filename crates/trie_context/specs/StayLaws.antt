-- What stays where rows stay: the sets that they stand for, and, where no hold was lost in the end, the rows themselves.
use Rattle.std.specs.Prelude.{◌≡◌, ℕ, zero, suc, ◌+◌, ◌-◌, ◌<◌, ◌≤◌, refl, Option, None, Some}
use Rattle.std.proofs.Common.{sym, ◌∙◌, ap, arith}
use Rattle.std.specs.Ordering.{nat_cmp}
use Rattle.std.specs.Cmp.{nat_cmp_total as total}
use Rattle.std.specs.FinMap as map
use Rattle.std.specs.FinMap.{nat_cmp-IsAntisymmetric as exact}
use native.Mathlib.Decide.{dec_lt}
use Rattle.hypertrie_model.specs.FoldLaws.{sum_over-has, sum_over-part}
use Rattle.node_table.specs.Table.{Row}
use Rattle.trie_node.specs.declared.node.Node.{Node}
use Rattle.trie_node.specs.Sets.{edges_of}
use Rattle.trie_context.specs.declared.tables.Tables.{Tables}
use Rattle.trie_context.specs.Rows.{rows_at, row_of, node_set, row_set, set_of}
use Rattle.trie_context.specs.Holds.{count_of, edges_from, holds_of, RowsStay, SameReserved}
use Rattle.trie_context.specs.Kept.{AreKept}
use Rattle.trie_context.specs.RowLaws.{node_set_same, fair_at, counted, same_tables}

no_row_at : (t : Tables) (r : ℕ) (row : Row Node) {G : Type 0} → row_of t 0 r ≡ Some row → G
no_row_at t r row at = absurd (let f : None ≡ Some row = sym (map.get-empty nat_cmp r) ∙ at in cc)

-- a row with a count is there
pub counted_there : (t : Tables) (d r : ℕ) → 0 < count_of (row_of t d r) → (row : Row Node) × (row_of t d r ≡ Some row)
counted_there t d r pos = by (row_of t d r) refl where
  by : (o : Option (Row Node)) → row_of t d r ≡ o → (row : Row Node) × (row_of t d r ≡ Some row)
  by None e = absurd (let c : count_of (row_of t d r) ≡ 0 = ap count_of e in omega arith)
  by (Some row) e = (row, e)

module _ (mixed : ℕ → ℕ → ℕ → ℕ → ℕ) where
  -- a row that an edge of a kept row leads to is there
  pub edge_row : (t : Tables) → AreKept mixed t → (d q : ℕ) (above : Row Node) → row_of t (suc d) q ≡ Some above → (r : ℕ) → 0 < edges_of above.node r → (row : Row Node) × (row_of t d r ≡ Some row)
  edge_row t kept d q above at r pos = counted_there t d r (omega (arith, pos, sum_over-part total exact (rows_at t (suc d)) (λ _ w. edges_of w.node r) q above at, fair_at mixed (rows_at t) kept d r))

  -- a row that stays stands for the same set
  pub sets_stay : (t u : Tables) → AreKept mixed t → RowsStay t u → (d r : ℕ) (row : Row Node) → row_of t d r ≡ Some row → set_of u d r ≡ set_of t d r
  sets_stay t u kept stay zero r row at = refl
  sets_stay t u kept stay (suc d) r row at =
      let now = stay (suc d) r row at in
      let below : (q : ℕ) → 0 < edges_of row.node q → set_of t d q ≡ set_of u d q = λ q pos. let low = edge_row t kept d r row at q pos in sym (sets_stay t u kept stay d q low.0 low.1) in
      ap (row_set (node_set (suc d) (set_of u d))) now.1
      ∙ ap (node_set (suc d) (set_of u d)) now.2
      ∙ sym (node_set_same (suc d) (set_of t d) (set_of u d) row.node below)
      ∙ sym (ap (row_set (node_set (suc d) (set_of t d))) at)

  -- a row that stays from t to m is there in u too, where u has each hold of t and its rows stay in m
  module _ (t m u : Tables) (kept : AreKept mixed t) (after : AreKept mixed u) (first : RowsStay t m) (last : RowsStay u m) (held : (d r : ℕ) → holds_of t d r ≤ holds_of u d r) where
    StayAt : ℕ → Type 0
    StayAt d = (r : ℕ) (row : Row Node) → row_of t d r ≡ Some row → (now : Row Node) × (row_of u d r ≡ Some now) × (now.node ≡ row.node)

    same_node : (x y : Row Node) → Some x ≡ Some y → x.node ≡ y.node
    same_node x y e = let is : x ≡ y = cc in ap (λ (z : Row Node). z.node) is

    row_stays : (d r : ℕ) (row : Row Node) → row_of t d r ≡ Some row → 0 < count_of (row_of u d r) → (now : Row Node) × (row_of u d r ≡ Some now) × (now.node ≡ row.node)
    row_stays d r row at pos =
        let now = counted_there u d r pos in
        let a = first d r row at in
        let b = last d r now.0 now.1 in
        (now.0, now.1, sym b.2 ∙ same_node b.0 a.0 (sym b.1 ∙ a.1) ∙ a.2)

    -- an edge of t from a row that stays is an edge of u
    edges_stay : (d : ℕ) → StayAt (suc d) → (r : ℕ) → 0 < edges_from (rows_at t (suc d)) r → 0 < edges_from (rows_at u (suc d)) r
    unfolding StayAt
    edges_stay d stay r pos =
        let p = sum_over-has total exact (λ _ row. edges_of row.node r) (rows_at t (suc d)) pos in
        let now = stay p.0 p.1 p.2 in
        let same : edges_of now.0.node r ≡ edges_of p.1.node r = ap (λ n. edges_of n r) now.2 in
        omega (arith, p.3, sum_over-part total exact (rows_at u (suc d)) (λ _ w. edges_of w.node r) p.0 now.0 now.1)

    stays_next : (d : ℕ) → StayAt (suc d) → StayAt d
    unfolding StayAt
    stays_next zero stay r row at = no_row_at t r row at
    stays_next (suc d) stay r row at =
        let live = (kept d).live r row at in
        let counts : count_of (row_of t (suc d) r) ≡ row.count = ap count_of at in
        let old = counted mixed (rows_at t) kept (suc d) r in
        let new = counted mixed (rows_at u) after (suc d) r in
        let more = held (suc d) r in
        row_stays (suc d) r row at (elim (dec_lt 0 (edges_from (rows_at t (suc (suc d))) r)) as (λ _. 0 < count_of (row_of u (suc d) r)) [
          | yes pos ↦ let edge = edges_stay (suc d) stay r pos in omega arith
          | no none ↦ omega arith
        ])

    -- there are no rows above depth three
    stays_high : (d : ℕ) → 3 < d → StayAt d
    unfolding StayAt
    stays_high zero high r row at = absurd (omega arith)
    stays_high (suc zero) high r row at = absurd (omega arith)
    stays_high (suc (suc zero)) high r row at = absurd (omega arith)
    stays_high (suc (suc (suc zero))) high r row at = absurd (omega arith)
    stays_high (suc (suc (suc (suc d)))) high r row at = absurd (let f : None ≡ Some row = sym (map.get-empty nat_cmp r) ∙ at in cc)

    stays_below : (d i : ℕ) → d + i ≡ 4 → StayAt d
    stays_below d zero is = stays_high d (omega arith)
    stays_below d (suc i) is = stays_next d (stays_below (suc d) i (omega arith))

    pub stay_through : RowsStay t u
    unfolding StayAt
    stay_through d = elim (dec_lt 3 d) as (λ _. StayAt d) [
      | yes high ↦ stays_high d high
      | no low ↦ stays_below d (4 - d) (omega arith)
    ]

  -- the tables as they were before, where each hold is as it was
  pub as_before : (t m u : Tables) → AreKept mixed t → AreKept mixed u → RowsStay t m → RowsStay u m → ((d r : ℕ) → holds_of u d r ≡ holds_of t d r) → SameReserved t u → u ≡ t
  as_before t m u kept after first last holds reserved =
      sym (same_tables mixed t u kept after (λ d r. sym (holds d r)) (stay_through t m u kept after first last (λ d r. omega (arith, holds d r))) reserved)
