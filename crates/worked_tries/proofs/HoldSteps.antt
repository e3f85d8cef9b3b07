-- The steps of the worked example, over plain tables.
use Rattle.std.specs.Prelude.{◌≡◌, ℕ, ◌+◌, ◌<◌, ◌≤◌, Option, None, Some, option_map}
use Rattle.std.proofs.Common.{◌∙◌, ap, arith}
use Rattle.std.specs.Ordering.{nat_cmp}
use Rattle.std.specs.Cmp.{nat_cmp_total as total}
use Rattle.std.specs.FinMap as map
use Rattle.std.specs.FinMap.{nat_cmp-IsAntisymmetric as exact}
use Rattle.hypertrie_model.specs.FoldLaws.{sum_over-insert, sum_over-empty}
use Rattle.hypertrie_model.specs.MapLaws.{get-insert_other}
use Rattle.trie_depth.specs.declared.id.Id.{Id}
use Rattle.edge_map.specs.declared.edge.Edge.{Edge}
use Rattle.edge_map.specs.declared.edge.Edge.TheVariants.{Key, Node as ToRow}
use Rattle.node_table.specs.Table.{Row}
use Rattle.trie_node.specs.declared.node.Node.{Node}
use Rattle.trie_node.specs.Sets.{key_set_of, set_hash, leads, edges_of}
use Rattle.trie_context.specs.declared.tables.Tables.{Tables}
use Rattle.trie_context.specs.Rows.{no_tables, row_of, node_of, row_set, set_of}
use Rattle.trie_context.specs.Holds.{count_of, holds_of, one_at, at_depth, nothing, HasRoom, CountsRiseBy}
use Rattle.trie_context.specs.Kept.{AreMoved}
use Rattle.trie_context.specs.RowLaws.{empty_at, key_node_edges}
use Rattle.trie_context.specs.MoveLaws.{leads_one, one_here, at_here, at_other, if_other, if_same, same_or_not}
use Rattle.worked_tries.proofs.KeysAndPairs.{zero_mix, key_node, key_node_form, pair_node}

pub no_count : (d r : ℕ) → count_of (row_of no_tables d r) ≡ 0
no_count d r = ap count_of (ap (λ m. map.get m r) (empty_at d) ∙ map.get-empty nat_cmp r)

pub no_hold : (d r : ℕ) → holds_of no_tables d r ≡ 0
no_hold d r = let c = no_count d r in omega arith

pub few_at : (d k e r : ℕ) → at_depth d (one_at k) e r ≤ 1
few_at d k e r = same_or_not e d _
    (λ is. let a = if_same e d (one_at k r) 0 is in let b = few k r in omega arith)
    (λ ne. let a = if_other e d (one_at k r) 0 ne in omega arith) where
      few : (k r : ℕ) → one_at k r ≤ 1
      few k r = same_or_not r k _ (λ is. let a : one_at k r ≡ 1 = if_same r k 1 0 is in omega arith) (λ ne. let a : one_at k r ≡ 0 = if_other r k 1 0 ne in omega arith)

abbrev pub AreFew : Tables → ℕ → Type 0
AreFew t n = (d r : ℕ) → count_of (row_of t d r) ≤ n

pub no_rows_few : AreFew no_tables 0
no_rows_few d r = let z = no_count d r in omega arith

pub few_more : (t u : Tables) (d k n : ℕ) → AreFew t n → CountsRiseBy t u (at_depth d (one_at k)) → AreFew u (n + 1)
few_more t u d k n few rise e r = omega (arith, few e r, rise e r, few_at d k e r)

pub few_room : (t : Tables) (n : ℕ) → n ≤ 9 → AreFew t n → HasRoom t
few_room t n small few d r row at = let c : count_of (row_of t d r) ≡ row.count = ap count_of at in let f = few d r in omega arith

pub keys_set : (t : Tables) (k : ℕ) (node : Node) → node_of t 1 k ≡ Some node → set_of t 1 k ≡ key_set_of node
keys_set t k node at = by (row_of t 1 k) at where
  by : (o : Option (Row Node)) → option_map (λ (r : Row Node). r.node) o ≡ Some node → row_set key_set_of o ≡ key_set_of node
  by None e = absurd (let f : None ≡ Some node = e in cc)
  by (Some row) e = let same : row.node ≡ node = cc in ap key_set_of same

module _ (low high : Id) (rise : low.0 < high.0) where
  pub key_edges : (r : ℕ) → edges_of (key_node low high) r ≡ 0
  key_edges r = key_node_edges (set_hash zero_mix 1) (key_node low high) r (key_node_form low high rise)

  pub pair_edges : (first : Id) (k r : ℕ) → edges_of (pair_node low high first k) r ≡ one_at k r
  pair_edges first k r =
      let f = λ (_ : ℕ) (e : Edge). leads e r in
      let a = sum_over-insert total exact map.empty f first.0 (ToRow k) (map.get-empty nat_cmp first.0) in
      let b = sum_over-insert total exact map.empty f high.0 (Key first) (map.get-empty nat_cmp high.0) in
      let c = sum_over-insert total exact (map.insert map.empty high.0 (Key first)) f low.0 (Key first) (get-insert_other total exact map.empty high.0 (Key first) low.0 (λ is. omega arith) ∙ map.get-empty nat_cmp low.0) in
      let none = sum_over-empty total exact f in
      omega (arith, leads_one k r)

module _ (t u : Tables) (k : ℕ) where
  -- a key set put in
  pub put_keys : (n : ℕ → ℕ) → AreMoved zero_mix t u (at_depth 1 (one_at k)) (at_depth 0 n) → (r : ℕ) → (holds_of u 1 r ≡ holds_of t 1 r + one_at k r) × (holds_of u 2 r ≡ holds_of t 2 r)
  put_keys n m r = (
    omega (arith, m.holds 1 r, at_here 1 (one_at k) r, at_other 0 n 1 r (λ is. omega arith)),
    omega (arith, m.holds 2 r, at_other 1 (one_at k) 2 r (λ is. omega arith), at_other 0 n 2 r (λ is. omega arith)),
  )

  pub held_again : AreMoved zero_mix t u (at_depth 1 (one_at k)) nothing → (r : ℕ) → (holds_of u 1 r ≡ holds_of t 1 r + one_at k r) × (holds_of u 2 r ≡ holds_of t 2 r)
  held_again m r = (
    omega (arith, m.holds 1 r, at_here 1 (one_at k) r),
    omega (arith, m.holds 2 r, at_other 1 (one_at k) 2 r (λ is. omega arith)),
  )

  -- a node of pairs put in
  pub put_pairs : (n : ℕ → ℕ) → AreMoved zero_mix t u (at_depth 2 (one_at k)) (at_depth 1 n) → (r : ℕ) → (holds_of u 1 r + n r ≡ holds_of t 1 r) × (holds_of u 2 r ≡ holds_of t 2 r + one_at k r)
  put_pairs n m r = (
    omega (arith, m.holds 1 r, at_here 1 n r, at_other 2 (one_at k) 1 r (λ is. omega arith)),
    omega (arith, m.holds 2 r, at_here 2 (one_at k) r, at_other 1 n 2 r (λ is. omega arith)),
  )

  pub given_pairs : (n : ℕ → ℕ) → AreMoved zero_mix t u nothing (at_depth 1 n) → (r : ℕ) → holds_of u 2 r ≡ holds_of t 2 r
  given_pairs n m r = omega (arith, m.holds 2 r, at_other 1 n 2 r (λ is. omega arith))

  pub let_go : AreMoved zero_mix t u nothing (at_depth 2 (one_at k)) → (r : ℕ) → holds_of u 2 r + one_at k r ≡ holds_of t 2 r
  let_go m r = omega (arith, m.holds 2 r, at_here 2 (one_at k) r)

-- the tables before and after keys are put in, and with a second hold through the edge to them
module _ (t t1 t2 : Tables) (k : ℕ) (n : ℕ → ℕ) (made : AreMoved zero_mix t t1 (at_depth 1 (one_at k)) (at_depth 0 n)) (e : Edge) (to : e ≡ ToRow k) (more : AreMoved zero_mix t1 t2 (at_depth 1 (leads e)) nothing) where
  to_row : (r : ℕ) → leads e r ≡ one_at k r
  to_row r = ap (λ f. leads f r) to ∙ leads_one k r

  pub held_twice : (r : ℕ) → leads e r + leads e r ≤ holds_of t2 1 r
  held_twice r = omega (arith, more.holds 1 r, at_here 1 (leads e) r, (put_keys t t1 k n made r).0, to_row r)

  pub held_once : (t3 : Tables) → AreMoved zero_mix t2 t3 nothing (at_depth 1 (leads e)) → (r : ℕ) → leads e r ≤ holds_of t3 1 r
  held_once t3 less r = omega (arith, less.holds 1 r, at_here 1 (leads e) r, held_twice r)

  pub two_holds : 2 ≤ holds_of t2 1 k
  two_holds = omega (arith, held_twice k, to_row k, one_here k)

  -- so the row's count isn't 1
  pub not_alone : count_of (row_of t2 1 k) ≡ 1 → ⊥
  not_alone one = omega (arith, two_holds, one)

  -- a hold left when the other was given up
  pub one_left : (t3 : Tables) → AreMoved zero_mix t2 t3 nothing (at_depth 1 (one_at k)) → (r : ℕ) → leads e r ≤ holds_of t3 1 r
  one_left t3 less r = omega (arith, less.holds 1 r, at_here 1 (one_at k) r, held_twice r, to_row r)
