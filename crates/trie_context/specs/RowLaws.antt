-- What follows from kept rows: no two rows of a depth stand for one set, counts are holds and edges, and tables with equal holds in which each row stays are equal.
use Rattle.std.specs.Prelude.{◌≡◌, ℕ, zero, suc, ◌+◌, ◌<◌, ◌≤◌, refl, Option, None, Some, IsSome, is_some, true, false}
use Rattle.std.proofs.Common.{sym, ◌∙◌, ap, arith}
use Rattle.std.specs.Ordering.{nat_cmp}
use Rattle.std.specs.Cmp.{nat_cmp_total as total}
use Rattle.std.specs.Cmp.Lexicographic.{slice_cmp}
use Rattle.std.specs.FinMap as map
use Rattle.std.specs.FinMap.{nat_cmp-IsAntisymmetric as exact}
use Rattle.std.specs.FinSet as set
use native.Mathlib.Decide.{dec_lt}
use Rattle.hypertrie_model.specs.IdSets.{IdSet}
use Rattle.hypertrie_model.specs.FoldLaws.{sum_over-has, sum_over-empty}
use Rattle.hypertrie_model.specs.MapLaws.{same_maps}
use Rattle.edge_map.specs.declared.edge.Edge.{Edge}
use Rattle.edge_map.specs.declared.edge.Edge.TheVariants.{Key}
use Rattle.edge_map.specs.Edges.{Edges}
use Rattle.node_table.specs.Table.{Row, Table}
use Rattle.trie_node.specs.declared.node.Node.{Node}
use Rattle.trie_node.specs.declared.node.Node.TheVariants.{Single, Full}
use Rattle.trie_node.specs.Sets.{leads, edges_in, edges_of, set_hash, hash_of_node}
use Rattle.trie_node.specs.Forms.{IsKeyNode}
use Rattle.trie_node.specs.FormLaws.{SameBelow, set_same, pair_node_same, triple_node_same, key_node, pair_node, triple_node}
use Rattle.trie_context.specs.declared.tables.Tables.{Tables}
use Rattle.trie_context.specs.Rows.{Rows, no_tables, rows_at, row_of, node_set, row_set, sets_over, set_of}
use Rattle.trie_context.specs.Holds.{count_of, edges_from, holds_over, holds_of, RowsStay, SameReserved}
use Rattle.trie_context.specs.Kept.{IsNode, AreRowsKept, AllKept, AreKept}

none_positive : (n : ℕ) → (0 < n → ⊥) → n ≡ 0
none_positive n h = elim (dec_lt 0 n) as (λ _. n ≡ 0) [ yes p ↦ absurd (h p) | no p ↦ omega arith ]

-- the edges of a key set lead nowhere
keys_lead : (a : Edges) (r : ℕ) → ((k : ℕ) (e : Edge) → map.get a k ≡ Some e → e ≡ Key (record { 0 = k })) → edges_in a r ≡ 0
keys_lead a r keys = none_positive (edges_in a r) (λ pos.
    let p = sum_over-has total exact (λ _ e. leads e r) a pos in
    let z : leads p.1 r ≡ 0 = ap (λ e. leads e r) (keys p.0 p.1 p.2) in
    omega (arith, p.3))

pub nothing_leads : (m : Edges) (r : ℕ) → m ≡ map.empty → edges_in m r ≡ 0
nothing_leads m r is = ap (λ n. edges_in n r) is ∙ sum_over-empty total exact (λ _ e. leads e r)

pub key_node_edges : (hash : IdSet → ℕ) (node : Node) (r : ℕ) → IsKeyNode hash node → edges_of node r ≡ 0
key_node_edges hash (Single p) r f = refl
key_node_edges hash (Full s h a b c) r f = omega (arith, keys_lead a r f.keys, nothing_leads b r f.second, nothing_leads c r f.third)

pub node_set_same : (d : ℕ) (low new : ℕ → IdSet) (node : Node) → SameBelow low new node → node_set d low node ≡ node_set d new node
node_set_same zero low new node same = refl
node_set_same (suc zero) low new node same = refl
node_set_same (suc (suc zero)) low new node same = set_same low new node same
node_set_same (suc (suc (suc d))) low new node same = set_same low new node same

module _ (mixed : ℕ → ℕ → ℕ → ℕ → ℕ) where
  -- a node looks at no other rows below than those that its edges lead to
  pub node_same : (d : ℕ) (low new : ℕ → IdSet) (node : Node) → SameBelow low new node → IsNode mixed d low node → IsNode mixed d new node
  node_same zero low new node same f = f
  node_same (suc zero) low new node same f = f
  node_same (suc (suc zero)) low new node same f = pair_node_same low new (set_hash mixed 2) node same f
  node_same (suc (suc (suc d))) low new node same f = triple_node_same low new (set_hash mixed 3) node same f

  -- no two rows of a depth with members have the same set
  abbrev pub AreNamed : (ℕ → IdSet) → Type 0
  AreNamed sets = (n m : ℕ) → 1 ≤ set.len (sets n) → 1 ≤ set.len (sets m) → sets n ≡ sets m → n ≡ m

  -- a node is named by its set
  pub node_named : (d : ℕ) (low : ℕ → IdSet) → AreNamed low → (x y : Node) → IsNode mixed d low x → IsNode mixed d low y → node_set d low x ≡ node_set d low y → x ≡ y
  node_named zero low named x y f g is = absurd f
  node_named (suc zero) low named x y f g is = key_node (set_hash mixed 1) low x y f g is
  node_named (suc (suc zero)) low named x y f g is = pair_node (set_hash mixed 2) low (λ n m p q same. named n m (omega arith) (omega arith) same) x y f g is
  node_named (suc (suc (suc d))) low named x y f g is = triple_node (set_hash mixed 3) low named x y f g is

  module _ (all : ℕ → Rows) (kept : AllKept mixed all) where
    filled_row : (stands : Node → IdSet) (o : Option (Row Node)) → 1 ≤ set.len (row_set stands o) → (row : Row Node) × (o ≡ Some row)
    filled_row stands None h = absurd (let none = set.len-empty (slice_cmp nat_cmp) in omega arith)
    filled_row stands (Some row) h = (row, refl)

    pub rows_named : (d : ℕ) → AreNamed (sets_over all d)
    rows_named zero n m p q is = absurd (let none = set.len-empty (slice_cmp nat_cmp) in omega arith)
    rows_named (suc d) n m p q is =
        let stands = node_set (suc d) (sets_over all d) in
        let a = filled_row stands (map.get (all (suc d)) n) p in
        let b = filled_row stands (map.get (all (suc d)) m) q in
        let same : stands a.0.node ≡ stands b.0.node = sym (ap (row_set stands) a.1) ∙ is ∙ ap (row_set stands) b.1 in
        (kept d).apart n m a.0 b.0 a.1 b.1 (node_named (suc d) (sets_over all d) (rows_named d) a.0.node b.0.node ((kept d).formed n a.0 a.1) ((kept d).formed m b.0 b.1) same)

    -- the edges into each row are no more than its count, below depth one too, where nothing leads
    pub fair_at : (d r : ℕ) → edges_from (all (suc d)) r ≤ count_of (map.get (all d) r)
    fair_at zero r =
        let none = none_positive (edges_from (all 1) r) (λ pos.
        let p = sum_over-has total exact (λ _ row. edges_of row.node r) (all 1) pos in
        let z = key_node_edges (set_hash mixed 1) p.1.node r ((kept 0).formed p.0 p.1 p.2) in
        omega (arith, p.3)) in
        omega arith
    fair_at (suc d) r = (kept d).fair r

    -- a count is holds and edges
    pub counted : (d r : ℕ) → count_of (map.get (all d) r) ≡ holds_over all d r + edges_from (all (suc d)) r
    counted d r = omega (arith, fair_at d r)

  -- the rows of a depth are the same where counts are and each row stays
  same_rows : (all new : ℕ → Rows) (d : ℕ) → AreRowsKept mixed all d → AreRowsKept mixed new d
      → ((r : ℕ) (row : Row Node) → map.get (all (suc d)) r ≡ Some row → (now : Row Node) × (map.get (new (suc d)) r ≡ Some now) × (now.node ≡ row.node))
      → ((r : ℕ) → count_of (map.get (all (suc d)) r) ≡ count_of (map.get (new (suc d)) r)) → all (suc d) ≡ new (suc d)
  same_rows all new d kept after stay counts = same_maps total exact _ _ (λ r. by r (map.get (all (suc d)) r) (map.get (new (suc d)) r) refl refl) where
    same_row : (x y : Row Node) → x.node ≡ y.node → x.count ≡ y.count → x.hash ≡ y.hash → x ≡ y
    same_row x y n c h = λ i. record { node = n i; count = c i; hash = h i }

    same_some : (x y : Row Node) → Some x ≡ Some y → x ≡ y
    same_some x y e = cc

    by : (r : ℕ) (o p : Option (Row Node)) → map.get (all (suc d)) r ≡ o → map.get (new (suc d)) r ≡ p → map.get (all (suc d)) r ≡ map.get (new (suc d)) r
    by r None None e f = e ∙ sym f
    by r None (Some w) e f = absurd (let live = after.live r w f in let c : 0 ≡ w.count = sym (ap count_of e) ∙ counts r ∙ ap count_of f in omega arith)
    by r (Some v) None e f = absurd (let live = kept.live r v e in let c : v.count ≡ 0 = sym (ap count_of e) ∙ counts r ∙ ap count_of f in omega arith)
    by r (Some v) (Some w) e f =
        let s = stay r v e in
        let same : s.0 ≡ w = same_some s.0 w (sym s.1 ∙ f) in
        let node : v.node ≡ w.node = sym s.2 ∙ ap (λ (x : Row Node). x.node) same in
        let count : v.count ≡ w.count = sym (ap count_of e) ∙ counts r ∙ ap count_of f in
        let hash : v.hash ≡ w.hash = kept.hashed r v e ∙ ap (hash_of_node mixed) node ∙ sym (after.hashed r w f) in
        e ∙ ap Some (same_row v w node count hash) ∙ sym f

  -- kept tables are equal where each hold is the same, each row stays and the same numbers are reserved
  pub same_tables : (t u : Tables) → AreKept mixed t → AreKept mixed u → ((d r : ℕ) → holds_of t d r ≡ holds_of u d r) → RowsStay t u → SameReserved t u → t ≡ u
  same_tables t u kept after holds stay reserved =
      let three : rows_at t 3 ≡ rows_at u 3 = from 2 refl in
      let two : rows_at t 2 ≡ rows_at u 2 = from 1 three in
      let one : rows_at t 1 ≡ rows_at u 1 = from 0 two in
      λ i. record { one = table one (reserved 1) i; two = table two (reserved 2) i; three = table three (reserved 3) i } where
        from : (d : ℕ) → rows_at t (suc (suc d)) ≡ rows_at u (suc (suc d)) → rows_at t (suc d) ≡ rows_at u (suc d)
        from d above = same_rows (rows_at t) (rows_at u) d (kept d) (after d) (stay (suc d)) (λ r.
            let e : edges_from (rows_at t (suc (suc d))) r ≡ edges_from (rows_at u (suc (suc d))) r = ap (λ m. edges_from m r) above in
            omega (arith, counted (rows_at t) kept (suc d) r, counted (rows_at u) after (suc d) r, holds (suc d) r))

        table : {x y : Table Node} → x.rows ≡ y.rows → y.reserved ≡ x.reserved → x ≡ y
        table rows res = λ i. record { rows = rows i; reserved = sym res i }

pub empty_at : (d : ℕ) → rows_at no_tables d ≡ map.empty
empty_at zero = refl
empty_at (suc zero) = refl
empty_at (suc (suc zero)) = refl
empty_at (suc (suc (suc zero))) = refl
empty_at (suc (suc (suc (suc d)))) = refl

-- tables without rows are kept
pub none_kept : (mixed : ℕ → ℕ → ℕ → ℕ → ℕ) → AreKept mixed no_tables
none_kept mixed d = record {
  formed = λ r row at. absurd (nowhere (suc d) r row at);
  hashed = λ r row at. absurd (nowhere (suc d) r row at);
  apart = λ r s row other at _. absurd (nowhere (suc d) r row at);
  live = λ r row at. absurd (nowhere (suc d) r row at);
  fair = λ r. let e : edges_from (rows_at no_tables (suc (suc d))) r ≡ 0 = ap (λ m. edges_from m r) (empty_at (suc (suc d))) ∙ sum_over-empty total exact (λ _ row. edges_of row.node r) in omega arith;
} where
  nowhere : (d r : ℕ) (row : Row Node) → row_of no_tables d r ≡ Some row → ⊥
  nowhere d r row at = let f : None ≡ Some row = sym (ap (λ m. map.get m r) (empty_at d) ∙ map.get-empty nat_cmp r) ∙ at in cc

-- a row has a depth of one or more
pub row_low : (t : Tables) (d r : ℕ) → IsSome (row_of t d r) → 1 ≤ d
row_low t zero r there = absurd (let f : false ≡ true = sym (ap is_some (map.get-empty nat_cmp r)) ∙ there in cc)
row_low t (suc d) r there = omega arith

pub row_there : (o : Option (Row Node)) → IsSome o → (row : Row Node) × (o ≡ Some row)
row_there None h = absurd (let f : false ≡ true = h in cc)
row_there (Some row) h = (row, refl)

-- a row that stands for the set of a node has that node
pub set_names : (mixed : ℕ → ℕ → ℕ → ℕ → ℕ) (t : Tables) → AreKept mixed t → (d : ℕ) (node : Node) → IsNode mixed (suc d) (set_of t d) node → (r : ℕ) (row : Row Node) → row_of t (suc d) r ≡ Some row
    → set_of t (suc d) r ≡ node_set (suc d) (set_of t d) node → row.node ≡ node
set_names mixed t kept d node form r row at same =
    node_named mixed (suc d) (set_of t d) (rows_named mixed (rows_at t) kept d) row.node node ((kept d).formed r row at) form
    (sym (ap (row_set (node_set (suc d) (set_of t d))) at) ∙ same)
