-- The rows of the tables that have the shape of a set of triples are those of the shape of the graph, and so are their lines.
use Rattle.std.specs.Prelude.{◌≡◌, ℕ, zero, suc, ◌<◌, ◌≤◌, ◌&&◌, ◌||◌, nat_lt, true, false, List, [], ◌∷◌, ◌++◌, refl, Option, None, Some, is_some}
use Rattle.std.specs.Prelude.{map as each}
use Rattle.std.proofs.Common.{sym, ◌∙◌, ap, subst, arith}
use Rattle.std.proofs.lemmas.Bool.Decides.{nat_tests}
use Rattle.std.proofs.lemmas.Cmp.{nat_cmp_total as total, lists_total}
use Rattle.std.proofs.lemmas.List.{map-append}
use Rattle.std.proofs.lemmas.Simd.{map-map}
use Rattle.std.specs.FinMap as map
use Rattle.std.specs.FinMap.{FinMap, nat_cmp-IsAntisymmetric as exact}
use Rattle.std.specs.FinSet.{slice_cmp-IsAntisymmetric}
use Rattle.std.specs.FinSet as set
use Rattle.std.specs.Ordering.{nat_cmp, eq_by_cmp}
use Rattle.hypertrie_model.specs.IdSets.{IdSet}
use Rattle.hypertrie_model.specs.Sets.{TupleSet, has, single}
use Rattle.hypertrie_model.specs.SetLaws.{and_both, or_cases, or_right, tied-is, tied-itself, has-single}
use Rattle.hypertrie_model.specs.Shapes.{row_cmp, shape}
use Rattle.hypertrie_model.specs.ShapeRows.{rows_total, rows_exact}
use Rattle.hypertrie_model.specs.Members.{contains-kept}
use Rattle.hypertrie_model.specs.Unions.{has_under}
use Rattle.hypertrie_model.specs.UnionLaws.{has-union_over, has-union_over_nil}
use Rattle.hypertrie_model.specs.UnionSizes.{prefixed, has-prefixed, has-prefixed_nil}
use Rattle.rdf_model.specs.Terms.{Text}
use Rattle.rdf_model.specs.Graph.{term_cmp, triples_total, exact_triples, terms_total, exact_terms}
use Rattle.term_dict.specs.Dict.{Terms, IsOneToOne}
use Rattle.node_table.specs.Table.{Row}
use Rattle.trie_node.specs.declared.node.Node.{Node}
use Rattle.trie_context.specs.declared.tables.Tables.{Tables}
use Rattle.trie_context.specs.Rows.{row_of, rows_at, set_of}
use Rattle.trie_context.specs.RowLaws.{row_low}
use Rattle.trie_context.specs.Holds.{count_of}
use Rattle.trie_context.specs.Shape.{HasShape}
use Rattle.set_image.specs.Images.{image, IsOneToOneOn}
use Rattle.set_image.specs.ImageLaws.{IsValue, is_image, image-image, image-same}
use Rattle.tuple_image.specs.TupleImages.{tuple_image, IsOver, IsOneToOneWhere, ReadsShape}
use Rattle.tuple_image.specs.TupleLaws.{one_to_one}
use Rattle.tuple_image.specs.RowImages.{over-shape, reads_shape}
use Rattle.rdf_model.specs.Sorting.{AreMembersOf, in_order, sorted_texts}
use Rattle.rdf_model.specs.MemberLaws.{members_in_order, members_image}
use Rattle.graph_shape.specs.GraphShapes.{GraphRow, tuple_of, tuples_of, member_text, row_line, has_line, line_rows, shape_lines}
use Rattle.graph_image.specs.Images.{term_at, triple_at, graph_of, AreKnown}
use Rattle.graph_image.specs.ImageLaws.{get_is, tuples_total, tuples_exact}
use Rattle.graph_view.specs.Read.{has_id}
use Rattle.graph_view.specs.ReadLaws.{known_ids}
use Rattle.graph_lines.specs.Walks.{AddsTexts, key_set, member_behind, row_read, row_text}
use Rattle.graph_lines.proofs.WalkLemmas.{members_under, members_union}
use Rattle.graph_lines.proofs.MemberLemmas.{added_as}

-- no two Ids of the dictionary have one term
pub lone_ids : (terms : Terms) → IsOneToOne terms → IsOneToOneWhere (has_id terms) (term_at terms)
lone_ids terms one p q at_p at_q same = one p q (term_at terms p) (get_is terms p at_p) (get_is terms q at_q ∙ ap Some (sym same))

-- the texts of the members of a row in order
pub row_members : (terms : Terms) → IsOneToOne terms → (S : IdSet) → IsOver (has_id terms) S → (old now : List Text) → old ≡ [] → AddsTexts (member_behind terms []) S old now → in_order now ≡ sorted_texts member_text (tuple_image term_cmp (term_at terms) S)
row_members terms one S over old now none added =
    let f = each (term_at terms) in
    let members = members_image tuples_total tuples_exact (lists_total terms_total) (slice_cmp-IsAntisymmetric exact_terms) f S (one_to_one total exact terms_total exact_terms (term_at terms) (has_id terms) (lone_ids terms one) S over) added.0 added.1 in
    ap in_order (added.2 ∙ ap (λ ls. ls ++ each (member_behind terms []) added.0) none ∙ sym (map-map member_text f added.0))
    ∙ members_in_order (lists_total terms_total) (slice_cmp-IsAntisymmetric exact_terms) member_text (tuple_image term_cmp (term_at terms) S) (each f added.0) members

-- the triples of the graph are the tuples, read
pub tuples_read : (terms : Terms) (H : IdSet) → AreKnown terms H → tuples_of (graph_of terms H) ≡ tuple_image term_cmp (term_at terms) H
tuples_read terms H known =
    image-image tuples_total tuples_exact triples_total exact_triples (lists_total terms_total) (slice_cmp-IsAntisymmetric exact_terms) (triple_at terms) tuple_of H
    ∙ image-same tuples_total tuples_exact (lists_total terms_total) (slice_cmp-IsAntisymmetric exact_terms) (λ t. tuple_of (triple_at terms t)) (each (term_at terms)) H
    (λ t there. let k = known t there in subst (λ u. tuple_of (triple_at terms u) ≡ each (term_at terms) u) (sym k.is) refl)

-- ---- the names of rows

module _ {X : Type 0} (m : FinMap nat_cmp X) where
  -- a tuple of one number that the map has
  pub record IsKeyOf (u : List ℕ) : Type 0 where
    pub number : ℕ
    pub value : X
    pub is : u ≡ number ∷ []
    pub at : map.get m number ≡ Some value

  in_single : (v : List ℕ) → has (single nat_cmp []) v ≡ true → v ≡ []
  in_single v e = tied-is (slice_cmp-IsAntisymmetric exact) v [] (sym (has-single total exact [] v) ∙ e)

  pub in_keys : (u : List ℕ) → has (key_set m) u ≡ true → IsKeyOf u
  in_keys [] e = absurd (let n : false ≡ true = sym (has-union_over_nil total exact m (λ _. single nat_cmp [])) ∙ e in let f : ⊥ = cc in f)
  in_keys (r ∷ v) e = by (map.get m r) refl (sym (has-union_over total exact m (λ _. single nat_cmp []) r v) ∙ e) where
    by : (o : Option X) → map.get m r ≡ o → has_under (λ _. single nat_cmp []) o v ≡ true → IsKeyOf (r ∷ v)
    by None at under = absurd (let f : ⊥ = cc in f)
    by (Some x) at under = record { number = r; value = x; is = ap (λ w. r ∷ w) (in_single v under); at = at }

  pub keys_in : (r : ℕ) (x : X) → map.get m r ≡ Some x → has (key_set m) (r ∷ []) ≡ true
  keys_in r x at =
      has-union_over total exact m (λ _. single nat_cmp []) r [] ∙ ap (λ o. has_under (λ _. single nat_cmp []) o []) at
      ∙ has-single total exact [] [] ∙ tied-itself (lists_total total) []

-- the depth and the number of a row that has a line
abbrev pub names : Tables → IdSet
names t = set.union (prefixed nat_cmp 1 (key_set (rows_at t 1))) (prefixed nat_cmp 2 (key_set (rows_at t 2)))

pub record IsName (t : Tables) (u : List ℕ) : Type 0 where
  pub depth : ℕ
  pub number : ℕ
  pub row : Row Node
  pub is : u ≡ depth ∷ number ∷ []
  pub low : depth < 3
  pub there : row_of t depth number ≡ Some row

module _ (t : Tables) where
  in_depth : (d : ℕ) → d < 3 → (u : List ℕ) → has (prefixed nat_cmp d (key_set (rows_at t d))) u ≡ true → IsName t u
  in_depth d low [] e = absurd (let n : false ≡ true = sym (has-prefixed_nil total exact d (key_set (rows_at t d))) ∙ e in let f : ⊥ = cc in f)
  in_depth d low (x ∷ u) e =
      let both = and_both (eq_by_cmp nat_cmp x d) (has (key_set (rows_at t d)) u) (sym (has-prefixed total exact d (key_set (rows_at t d)) x u) ∙ e) in
      let key = in_keys (rows_at t d) u both.1 in
      record { depth = d; number = key.number; row = key.value; is = (λ i. tied-is exact x d both.0 i ∷ key.is i); low = low; there = key.at }

  depth_in : (d r : ℕ) (row : Row Node) → row_of t d r ≡ Some row → has (prefixed nat_cmp d (key_set (rows_at t d))) (d ∷ r ∷ []) ≡ true
  depth_in d r row at = has-prefixed total exact d (key_set (rows_at t d)) d (r ∷ []) ∙ (λ i. tied-itself total d i && keys_in (rows_at t d) r row at i)

  pub in_names : (u : List ℕ) → has (names t) u ≡ true → IsName t u
  in_names u e = or_cases (has (prefixed nat_cmp 1 (key_set (rows_at t 1))) u) (has (prefixed nat_cmp 2 (key_set (rows_at t 2))) u)
      (sym (set.contains-union (lists_total total) (prefixed nat_cmp 1 (key_set (rows_at t 1))) (prefixed nat_cmp 2 (key_set (rows_at t 2))) u) ∙ e) (IsName t u)
      (in_depth 1 (omega arith) u) (in_depth 2 (omega arith) u)

  pub names_in : (d r : ℕ) (row : Row Node) → d < 3 → row_of t d r ≡ Some row → has (names t) (d ∷ r ∷ []) ≡ true
  names_in d r row low at = set.contains-union (lists_total total) (prefixed nat_cmp 1 (key_set (rows_at t 1))) (prefixed nat_cmp 2 (key_set (rows_at t 2))) (d ∷ r ∷ []) ∙ by d (row_low t d r (ap is_some at)) low at where
    by : (d : ℕ) → 1 ≤ d → d < 3 → row_of t d r ≡ Some row → (has (prefixed nat_cmp 1 (key_set (rows_at t 1))) (d ∷ r ∷ []) || has (prefixed nat_cmp 2 (key_set (rows_at t 2))) (d ∷ r ∷ [])) ≡ true
    by zero some low at = absurd (omega arith)
    by (suc zero) some low at = ap (λ b. b || has (prefixed nat_cmp 2 (key_set (rows_at t 2))) (1 ∷ r ∷ [])) (depth_in 1 r row at)
    by (suc (suc zero)) some low at = or_right (has (prefixed nat_cmp 1 (key_set (rows_at t 1))) (2 ∷ r ∷ [])) (has (prefixed nat_cmp 2 (key_set (rows_at t 2))) (2 ∷ r ∷ [])) (depth_in 2 r row at)
    by (suc (suc (suc d))) some low at = absurd (omega arith)

  apart : (u : List ℕ) → has (prefixed nat_cmp 2 (key_set (rows_at t 2))) u ≡ true → has (prefixed nat_cmp 1 (key_set (rows_at t 1))) u ≡ false
  apart [] e = has-prefixed_nil total exact 1 (key_set (rows_at t 1))
  apart (x ∷ u) e =
      let is = tied-is exact x 2 (and_both (eq_by_cmp nat_cmp x 2) (has (key_set (rows_at t 2)) u) (sym (has-prefixed total exact 2 (key_set (rows_at t 2)) x u) ∙ e)).0 in
      has-prefixed total exact 1 (key_set (rows_at t 1)) x u ∙ ap (λ y. eq_by_cmp nat_cmp y 1 && has (key_set (rows_at t 1)) u) is

  pub members_names : (ones twos : List (List ℕ)) → AreMembersOf (key_set (rows_at t 1)) ones → AreMembersOf (key_set (rows_at t 2)) twos → AreMembersOf (names t) (each (λ u. 1 ∷ u) ones ++ each (λ u. 2 ∷ u) twos)
  members_names ones twos first second =
      members_union (prefixed nat_cmp 1 (key_set (rows_at t 1))) (prefixed nat_cmp 2 (key_set (rows_at t 2))) (each (λ u. 1 ∷ u) ones) (each (λ u. 2 ∷ u) twos) apart
      (members_under 1 (key_set (rows_at t 1)) ones first) (members_under 2 (key_set (rows_at t 2)) twos second)

-- ---- the rows, read

-- the row of a name
abbrev pub row_named : Terms → Tables → List ℕ → GraphRow
row_named terms t [] = record { depth = 0; tuples = set.empty; count = 0 }
row_named terms t (d ∷ []) = record { depth = 0; tuples = set.empty; count = 0 }
row_named terms t (d ∷ r ∷ rest) = row_read terms t d r

module _ (terms : Terms) (one : IsOneToOne terms) (t : Tables) (H : IdSet) (known : AreKnown terms H) (has_shape : HasShape t H) where
  read : ReadsShape nat_cmp term_cmp (term_at terms) H
  read = reads_shape total exact terms_total exact_terms (term_at terms) (has_id terms) (lone_ids terms one) H (known_ids terms H known)

  -- the sets of rows are known
  pub rows_known : (d r : ℕ) (row : Row Node) → row_of t d r ≡ Some row → IsOver (has_id terms) (set_of t d r)
  rows_known d r row at = over-shape total exact terms_total exact_terms (term_at terms) (has_id terms) (lone_ids terms one) H (known_ids terms H known) d (set_of t d r) row.count (has_shape.sound d r row at)

  test_of_lt : (d : ℕ) → d < 3 → nat_lt d 3 ≡ true
  test_of_lt d h = grind (arith, nat_tests)

  lt_of_test : (d : ℕ) → nat_lt d 3 ≡ true → d < 3
  lt_of_test d h = grind (arith, nat_tests)

  -- the rows that have a line are those of the names
  rows_are : image (row_cmp term_cmp) (row_named terms t) (names t) ≡ line_rows (graph_of terms H)
  rows_are =
      is_image (lists_total total) (slice_cmp-IsAntisymmetric exact) (rows_total terms_total exact_terms) (rows_exact terms_total exact_terms) (row_named terms t) (names t) (line_rows (graph_of terms H)) from into where
        T : TupleSet term_cmp
        T = tuple_image term_cmp (term_at terms) H

        kept : (y : GraphRow) → set.contains (line_rows (graph_of terms H)) y ≡ (set.contains (shape term_cmp T) y && nat_lt y.depth 3)
        kept y = contains-kept (rows_total terms_total exact_terms) (rows_exact terms_total exact_terms) (shape term_cmp (tuples_of (graph_of terms H))) has_line y
            ∙ ap (λ S. set.contains (shape term_cmp S) y && nat_lt y.depth 3) (tuples_read terms H known)

        from : (y : GraphRow) → set.contains (line_rows (graph_of terms H)) y ≡ true → IsValue (lists_total total) (slice_cmp-IsAntisymmetric exact) (rows_total terms_total exact_terms) (rows_exact terms_total exact_terms) (row_named terms t) (names t) y
        from y e =
            let both = and_both (set.contains (shape term_cmp T) y) (nat_lt y.depth 3) (sym (kept y) ∙ e) in
            let r = read.complete y.depth y.tuples y.count both.0 in
            let s = has_shape.complete y.depth r.tuples y.count r.row in
            record {
              member = y.depth ∷ s.number ∷ [];
              there = names_in t y.depth s.number s.row (lt_of_test y.depth both.1) s.there;
              is = λ i. record { depth = y.depth; tuples = (ap (tuple_image term_cmp (term_at terms)) s.stands ∙ r.is) i; count = (ap count_of s.there ∙ s.counts) i };
            }

        into : (u : List ℕ) → has (names t) u ≡ true → set.contains (line_rows (graph_of terms H)) (row_named terms t u) ≡ true
        into u e =
            let n = in_names t u e in
            let row = read.sound n.depth (set_of t n.depth n.number) n.row.count (has_shape.sound n.depth n.number n.row n.there) in
            let counted : count_of (row_of t n.depth n.number) ≡ n.row.count = ap count_of n.there in
            subst (λ v. set.contains (line_rows (graph_of terms H)) (row_named terms t v) ≡ true) (sym n.is)
            (kept (row_read terms t n.depth n.number)
            ∙ (λ i. (ap (λ c. set.contains (shape term_cmp T) (record { depth = n.depth; tuples = tuple_image term_cmp (term_at terms) (set_of t n.depth n.number); count = c })) counted ∙ row) i && test_of_lt n.depth n.low i))

  -- no two names have one row
  named_once : IsOneToOneOn (row_named terms t) (names t)
  named_once u at_u v at_v same =
      let n = in_names t u at_u in
      let m = in_names t v at_v in
      let rows : row_read terms t m.depth m.number ≡ row_read terms t n.depth n.number = ap (row_named terms t) (sym m.is) ∙ same ∙ ap (row_named terms t) n.is in
      let depths = ap (λ (r : GraphRow). r.depth) rows in
      let sets = read.single m.depth n.depth (set_of t m.depth m.number) (set_of t n.depth n.number) m.row.count n.row.count (has_shape.sound m.depth m.number m.row m.there) (has_shape.sound n.depth n.number n.row n.there) (ap (λ (r : GraphRow). r.tuples) rows) in
      let numbers = has_shape.single n.depth m.number n.number m.row n.row (ap (λ d. row_of t d m.number) (sym depths) ∙ m.there) n.there (ap (λ d. set_of t d m.number) (sym depths) ∙ sets) in
      m.is ∙ (λ i. depths i ∷ numbers i ∷ []) ∙ sym n.is

  -- the lines of the rows of both depths, in order, are those of the graph
  pub lines_in_order : (old mid now : List Text) → old ≡ [] → AddsTexts (row_text terms t 1) (key_set (rows_at t 1)) old mid → AddsTexts (row_text terms t 2) (key_set (rows_at t 2)) mid now → in_order now ≡ shape_lines (graph_of terms H)
  unfolding shape_lines
  lines_in_order old mid now none first second =
      let line : List ℕ → Text = λ u. row_line (row_named terms t u) in
      let ones = added_as (row_text terms t 1) (λ u. line (1 ∷ u)) (key_set (rows_at t 1)) (same_line 1) old mid first in
      let twos = added_as (row_text terms t 2) (λ u. line (2 ∷ u)) (key_set (rows_at t 2)) (same_line 2) mid now second in
      let all = each (λ u. 1 ∷ u) ones.0 ++ each (λ u. 2 ∷ u) twos.0 in
      let members = members_image (lists_total total) (slice_cmp-IsAntisymmetric exact) (rows_total terms_total exact_terms) (rows_exact terms_total exact_terms) (row_named terms t) (names t) named_once all (members_names t ones.0 twos.0 ones.1 twos.1) in
      let lines : now ≡ each row_line (each (row_named terms t) all) =
      twos.2 ∙ (λ i. (ones.2 ∙ ap (λ ls. ls ++ each (λ u. line (1 ∷ u)) ones.0) none) i ++ each (λ u. line (2 ∷ u)) twos.0)
      ∙ (λ i. sym (map-map line (λ u. 1 ∷ u) ones.0) i ++ sym (map-map line (λ u. 2 ∷ u) twos.0) i)
      ∙ sym (map-append line (each (λ u. 1 ∷ u) ones.0) (each (λ u. 2 ∷ u) twos.0)) ∙ sym (map-map row_line (row_named terms t) all) in
      ap in_order lines ∙ members_in_order (rows_total terms_total exact_terms) (rows_exact terms_total exact_terms) row_line (image (row_cmp term_cmp) (row_named terms t) (names t)) (each (row_named terms t) all) members
      ∙ ap (sorted_texts row_line) rows_are where
        same_line : (d : ℕ) (u : List ℕ) → has (key_set (rows_at t d)) u ≡ true → row_text terms t d u ≡ row_line (row_named terms t (d ∷ u))
        same_line d u e = let key = in_keys (rows_at t d) u e in subst (λ v. row_text terms t d v ≡ row_line (row_named terms t (d ∷ v))) (sym key.is) refl
