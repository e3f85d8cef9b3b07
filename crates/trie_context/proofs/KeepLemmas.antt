-- A node that was put into its table, or found there and given back.
use Rattle.std.specs.Prelude.{◌≡◌, ℕ, ◌+◌, ◌-◌, ◌≤◌, refl, None, Some, option_map}
use Rattle.std.proofs.Common.{sym, ◌∙◌, ap, subst, arith}
use Rattle.node_table.specs.Table.{Row, with_row, HasNoNodeUnder}
use Rattle.trie_node.specs.declared.node.Node.{Node}
use Rattle.trie_node.specs.Sets.{edges_of, hash_of_node}
use Rattle.trie_context.specs.declared.tables.Tables.{Tables}
use Rattle.trie_context.specs.Rows.{table_at, put_table, row_of, set_of}
use Rattle.trie_context.specs.Holds.{count_of, holds_of, one_at, at_depth, CountsRiseBy, RowsStay}
use Rattle.trie_context.specs.Kept.{IsNode, AreKept}
use Rattle.trie_context.specs.Opened.{StandsForNoRow}
use Rattle.trie_context.specs.Interned.{IsInterned}
use Rattle.trie_context.specs.MoveLaws.{moved_as, zero_at}
use Rattle.trie_context.proofs.TableMoves.{bumped, added, add_stays, count_stays, put_row, insert_counts}
use Rattle.trie_context.proofs.InternLemmas.{no_row}
use Rattle.trie_context.proofs.OpenLemmas.{stands_for_none}

module _ (mixed : ℕ → ℕ → ℕ → ℕ → ℕ) (t : Tables) (kept : AreKept mixed t) (k : ℕ) (low : 1 ≤ k) where
  -- a node that no row has under its hash stands for the set of no row
  pub not_found : (node : Node) → IsNode mixed k (set_of t (k - 1)) node → (hash : ℕ) → hash ≡ hash_of_node mixed node → HasNoNodeUnder (table_at t k) node hash → StandsForNoRow t k node
  not_found node form hash hashed none = stands_for_none mixed t kept k low node form (no_row mixed t kept k low node hash hashed none)

  module _ (high : k ≤ 3) (node : Node) where
    -- a row of the node gets one hold more
    pub found_kept : (i : ℕ) (row : Row Node) → row_of t k i ≡ Some row → row.node ≡ node → (u : Tables) → u ≡ put_table t k (with_row (table_at t k) i (record row { count = row.count + 1 })) → IsInterned mixed t u k node i (Some node)
    found_kept i row at same u is =
        let more : Row Node = record row { count = row.count + 1 } in
        let few : more.count ≤ count_of (row_of t k i) + 1 = let c : count_of (row_of t k i) ≡ row.count = ap count_of at in omega arith in
        record {
          there = ap (option_map (λ (r : Row Node). r.node)) (ap (λ v. row_of v k i) is ∙ put_row t k low high i more) ∙ ap Some same;
          came = (refl, ap (option_map (λ (r : Row Node). r.node)) at ∙ ap Some same);
          moved = moved_as (bumped mixed t kept k low high i row at u is) (at_depth k (one_at i)) (at_depth (k - 1) (λ _. 0)) (λ d r. omega (arith, zero_at (k - 1) d r));
          counts = subst (λ v. CountsRiseBy t v (at_depth k (one_at i))) (sym is) (insert_counts t k low high i more few);
          stay = subst (RowsStay t) (sym is) (count_stays t k low high i (row.count + 1) row at);
        }

    -- a row of the node is made
    pub made_kept : (form : IsNode mixed k (set_of t (k - 1)) node) → ((r : ℕ) → edges_of node r ≤ holds_of t (k - 1) r) → (hash : ℕ) → hash ≡ hash_of_node mixed node → HasNoNodeUnder (table_at t k) node hash
        → (i : ℕ) → row_of t k i ≡ None → (u : Tables) → u ≡ put_table t k (with_row (table_at t k) i (record { node = node; count = 1; hash = hash })) → IsInterned mixed t u k node i None
    made_kept form held hash hashed none i vacant u is =
        let row : Row Node = record { node = node; count = 1; hash = hash } in
        let fresh = no_row mixed t kept k low node hash hashed none in
        record {
          there = ap (option_map (λ (r : Row Node). r.node)) (ap (λ v. row_of v k i) is ∙ put_row t k low high i row);
          came = not_found node form hash hashed none;
          moved = added mixed t kept k low high i node hash vacant form fresh held hashed u is;
          counts = subst (λ v. CountsRiseBy t v (at_depth k (one_at i))) (sym is) (insert_counts t k low high i row (omega arith));
          stay = subst (RowsStay t) (sym is) (add_stays t k low high i row vacant);
        }
