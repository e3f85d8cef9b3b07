-- What the tests of a log begin with: two sets of keys and pairs of the first, all held, and pairs of the second.
use Rattle.std.specs.Prelude.{◌≡◌, ℕ, ◌+◌, ◌<◌, ◌≤◌, Some}
use Rattle.std.proofs.Common.{sym, ◌∙◌, ap, subst, arith}
use Rattle.trie_depth.specs.declared.id.Id.{Id}
use Rattle.trie_node.specs.declared.node.Node.{Node}
use Rattle.trie_node.specs.Sets.{set_hash, edges_of}
use Rattle.trie_node.specs.Forms.{IsKeyNode, IsPairNode}
use Rattle.trie_context.specs.declared.tables.Tables.{Tables}
use Rattle.trie_context.specs.Rows.{no_tables, row_of, node_of, set_of}
use Rattle.trie_context.specs.Holds.{count_of, holds_of, one_at, at_depth, HasRoom, CountsRiseBy, RowsStay}
use Rattle.trie_context.specs.Kept.{AreMoved}
use Rattle.trie_context.specs.MoveLaws.{at_here, at_other, node_stays, one_here}
use Rattle.worked_tries.specs.Logs.{CanChange}
use Rattle.worked_tries.proofs.KeysAndPairs.{zero_mix, two, three, rise, key_node, key_node_form, pair_node, pair_node_form}
use Rattle.worked_tries.proofs.HoldSteps.{no_count, no_hold, AreFew, no_rows_few, few_more, few_room, keys_set, key_edges, pair_edges, put_keys, put_pairs}

abbrev pub one_id : Id
one_id = record { 0 = 1 }

abbrev pub four : Id
four = record { 0 = 4 }

abbrev pub five : Id
five = record { 0 = 5 }

rise_on : 4 < 5
rise_on = omega arith

-- a node was put into its table, with one hold
pub record IsPut (d below : ℕ) (t u : Tables) (k : ℕ) (node : Node) : Type 0 where
  pub there : node_of u d k ≡ Some node
  pub moved : AreMoved zero_mix t u (at_depth d (one_at k)) (at_depth below (edges_of node))
  pub counts : CountsRiseBy t u (at_depth d (one_at k))
  pub stay : RowsStay t u

-- each set of keys can be put in
pub first_form : (n : Node) → n ≡ key_node two three → IsKeyNode (set_hash zero_mix 1) n
first_form n is = subst (IsKeyNode (set_hash zero_mix 1)) (sym is) (key_node_form two three rise)

pub second_form : (n : Node) → n ≡ key_node four five → IsKeyNode (set_hash zero_mix 1) n
second_form n is = subst (IsKeyNode (set_hash zero_mix 1)) (sym is) (key_node_form four five rise_on)

pub first_held : (t : Tables) (n : Node) → n ≡ key_node two three → (r : ℕ) → edges_of n r ≤ holds_of t 0 r
first_held t n is r = let e = ap (λ m. edges_of m r) is ∙ key_edges two three rise r in omega arith

pub second_held : (t : Tables) (n : Node) → n ≡ key_node four five → (r : ℕ) → edges_of n r ≤ holds_of t 0 r
second_held t n is r = let e = ap (λ m. edges_of m r) is ∙ key_edges four five rise_on r in omega arith

same_node : (x y : Node) → Some x ≡ Some y → x ≡ y
same_node x y e = cc

module _ (t : Tables) (empty : t ≡ no_tables) where
  pub empty_room : HasRoom t
  empty_room = subst HasRoom (sym empty) (few_room no_tables 0 (omega arith) no_rows_few)

  module _ (t1 : Tables) (k1 : ℕ) (n1 : Node) (is1 : n1 ≡ key_node two three) (p1 : IsPut 1 0 t t1 k1 n1) where
    few1 : AreFew t1 1
    few1 = few_more t t1 1 k1 0 (subst (λ u. AreFew u 0) (sym empty) no_rows_few) p1.counts

    pub first_room : HasRoom t1
    first_room = few_room t1 1 (omega arith) few1

    module _ (t2 : Tables) (k2 : ℕ) (n2 : Node) (is2 : n2 ≡ key_node four five) (p2 : IsPut 1 0 t1 t2 k2 n2) where
      few2 : AreFew t2 2
      few2 = few_more t1 t2 1 k2 1 few1 p2.counts

      pub second_room : HasRoom t2
      second_room = few_room t2 2 (omega arith) few2

      holds_one : (r : ℕ) → holds_of t2 1 r ≡ one_at k1 r + one_at k2 r
      holds_one r = omega (arith, (put_keys t t1 k1 (edges_of n1) p1.moved r).0, (put_keys t1 t2 k2 (edges_of n2) p2.moved r).0, ap (λ u. holds_of u 1 r) empty ∙ no_hold 1 r)

      holds_two : (r : ℕ) → holds_of t2 2 r ≡ 0
      holds_two r = omega (arith, (put_keys t t1 k1 (edges_of n1) p1.moved r).1, (put_keys t1 t2 k2 (edges_of n2) p2.moved r).1, ap (λ u. holds_of u 2 r) empty ∙ no_hold 2 r)

      count_two : (r : ℕ) → count_of (row_of t2 2 r) ≤ 0
      count_two r = omega (arith, p1.counts 2 r, p2.counts 2 r, at_other 1 (one_at k1) 2 r (λ is. omega arith), at_other 1 (one_at k2) 2 r (λ is. omega arith), ap (λ u. count_of (row_of u 2 r)) empty ∙ no_count 2 r)

      module _ (n3 : Node) (is3 : n3 ≡ pair_node two three one_id k1) where
        pairs_edges : (r : ℕ) → edges_of n3 r ≡ one_at k1 r
        pairs_edges r = ap (λ n. edges_of n r) is3 ∙ pair_edges two three rise one_id k1 r

        pub pairs_form : IsPairNode (set_hash zero_mix 2) (set_of t2 1) n3
        pairs_form = subst (IsPairNode (set_hash zero_mix 2) (set_of t2 1)) (sym is3)
            (pair_node_form two three rise one_id k1 (set_of t2 1) (keys_set t2 k1 (key_node two three) (node_stays t1 t2 p2.stay 1 k1 (key_node two three) (p1.there ∙ ap Some is1))))

        pub pairs_held : (r : ℕ) → edges_of n3 r ≤ holds_of t2 1 r
        pairs_held r = omega (arith, pairs_edges r, holds_one r)

        pub can_change : (t3 : Tables) (m : ℕ) → IsPut 2 1 t2 t3 m n3 → (n4 : Node) → n4 ≡ pair_node four five one_id k2 → CanChange zero_mix t3 k1 k2 m n4
        can_change t3 m p3 n4 is4 = record {
          held = omega (arith, (put_pairs t2 t3 m (edges_of n3) p3.moved m).1, one_here m);
          alone = omega (arith, p3.counts 2 m, at_here 2 (one_at m) m, one_here m, count_two m);
          leads = λ node at r. let same : edges_of node r ≡ edges_of n3 r = ap (λ n. edges_of n r) (same_node node n3 (sym at ∙ p3.there)) in omega (arith, pairs_edges r);
          others_held = omega (arith, (put_pairs t2 t3 m (edges_of n3) p3.moved k2).0, pairs_edges k2, holds_one k2, one_here k2);
          few = few_more t2 t3 2 m 2 few2 p3.counts;
          form = subst (IsPairNode (set_hash zero_mix 2) (set_of t3 1)) (sym is4)
              (pair_node_form four five rise_on one_id k2 (set_of t3 1) (keys_set t3 k2 (key_node four five) (node_stays t2 t3 p3.stay 1 k2 (key_node four five) (p2.there ∙ ap Some is2))));
          edges = λ r. let e : edges_of n4 r ≡ one_at k2 r = ap (λ n. edges_of n r) is4 ∙ pair_edges four five rise_on one_id k2 r in omega arith;
        }
