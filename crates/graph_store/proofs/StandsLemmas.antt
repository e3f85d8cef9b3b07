-- The tables of a store are the shape of its graph, and so have as many rows.
use Rattle.std.proofs.Common.{◌≡◌, ◌∙◌, ℕ, ◌≤◌, ◌<◌, Bool, true, false, cond, nat_le, List, [], get_or, refl, sym, ap, subst, arith}
use Rattle.std.proofs.lemmas.Bool.Decides.{nat_tests}
use Rattle.std.proofs.lemmas.Cmp.{lists_total}
use Rattle.std.specs.Ordering.{nat_cmp}
use Rattle.std.specs.Cmp.{nat_cmp_total as total}
use Rattle.std.specs.Cmp.Lexicographic.{slice_cmp}
use Rattle.std.specs.FinMap as map
use Rattle.std.specs.FinMap.{nat_cmp-IsAntisymmetric as exact}
use Rattle.std.specs.FinSet.{FinSet, slice_cmp-IsAntisymmetric}
use Rattle.std.specs.FinSet as set
use Rattle.hypertrie_model.specs.Sets.{TupleSet}
use Rattle.hypertrie_model.specs.SetLaws.{len-single}
use Rattle.hypertrie_model.specs.Shapes.{set_cmp, InShape, two, one, count2, count1}
use Rattle.hypertrie_model.specs.ShapeRows.{IsRowOf, in_shape, shape_in}
use Rattle.hypertrie_model.specs.ShapeLaws.{sets_total, sets_exact, le_of_test}
use Rattle.rdf_model.specs.Terms.{Term, Iri, Triple}
use Rattle.rdf_model.specs.Graph.{Graph, term_cmp, terms_total, exact_terms, triples_total, exact_triples}
use Rattle.term_dict.specs.Dict.{IsOneToOne}
use Rattle.set_image.specs.OneToOneLaws.{len-image}
use Rattle.tuple_image.specs.TupleImages.{tuple_image, ReadsShape}
use Rattle.tuple_image.specs.RowImages.{reads_shape}
use Rattle.graph_shape.specs.GraphShapes.{tuple_of, tuples_of, rows_in, figures_of}
use Rattle.graph_image.specs.Images.{term_at, terms_of}
use Rattle.graph_image.specs.ImageLaws.{len-graph_of}
use Rattle.graph_image.specs.TermLaws.{len-names}
use Rattle.trie_context.specs.declared.root.Root.{Root}
use Rattle.trie_context.specs.declared.root.Root.TheVariants.{Empty, One, Many}
use Rattle.trie_context.specs.Rows.{rows_at, row_of, set_of}
use Rattle.trie_context.specs.RowLaws.{row_there}
use Rattle.trie_context.specs.Kept.{AreKept}
use Rattle.trie_context.specs.Roots.{root_set}
use Rattle.trie_context.specs.RootShape.{OnlyRootHeld, root_shape}
use Rattle.trie_context.specs.Shape.{HasShape}
use Rattle.trie_context.specs.MoveLaws.{held_there}
use Rattle.graph_view.specs.Read.{has_id}
use Rattle.graph_view.specs.ReadLaws.{known_ids}
use Rattle.graph_lines.proofs.RowLemmas.{lone_ids, tuples_read}
use Rattle.graph_store.specs.StoreState.{StoreState, graph, triples_of, IsSoundStore}
use Rattle.graph_store.specs.Stands.{row_tuples, IsMany, Stands}
use Rattle.graph_store.proofs.RootLemmas.{root_held}

module _ (mixed : ℕ → ℕ → ℕ → ℕ → ℕ) (s : StoreState) (kept : AreKept mixed s.tables) (sound : IsSoundStore s.dict s.tables s.root s.max) (lone : IsOneToOne s.dict) where
  pub has_shape : HasShape s.tables (triples_of s)
  has_shape = root_shape mixed s.tables kept s.root sound.only

  read : ReadsShape nat_cmp term_cmp (term_at s.dict) (triples_of s)
  read = reads_shape total exact terms_total exact_terms (term_at s.dict) (has_id s.dict) (lone_ids s.dict lone) (triples_of s) (known_ids s.dict (triples_of s) sound.known)

  same : tuples_of (graph s) ≡ tuple_image term_cmp (term_at s.dict) (triples_of s)
  same = tuples_read s.dict (triples_of s) sound.known

  many : (r : Root) → OnlyRootHeld s.tables r → s.root ≡ r → (IsMany r → 2 ≤ set.len (triples_of s)) × (2 ≤ set.len (triples_of s) → IsMany r)
  many Empty only is = (
    λ f. absurd f,
    λ two. let n = ap (λ q. set.len (root_set s.tables q)) is ∙ set.len-empty (slice_cmp nat_cmp) in omega (arith, n, two),
  )
  many (One triple) only is = (
    λ f. absurd f,
    λ two. let n = ap (λ q. set.len (root_set s.tables q)) is ∙ len-single total exact _ in omega (arith, n, two),
  )
  many (Many g) only is = (
    λ _. let row = row_there (row_of s.tables 3 g) (held_there s.tables 3 g (root_held s.tables (Many g) only)) in
        (in_shape total exact (triples_of s) 3 (set_of s.tables 3 g) row.0.count (has_shape.sound 3 g row.0 row.1)).0,
    λ _. tt,
  )

  pub stands : Stands mixed s
  stands = record {
    kept = kept;
    sound = λ d r row at. subst (λ T. InShape term_cmp T d (row_tuples s d r) row.count) (sym same) (read.sound d (set_of s.tables d r) row.count (has_shape.sound d r row at));
    complete = λ d T n e.
        let w = read.complete d T n (subst (λ Z. InShape term_cmp Z d T n) same e) in
        let h = has_shape.complete d w.tuples n w.row in
        record { number = h.number; row = h.row; there = h.there; stands = ap (tuple_image term_cmp (term_at s.dict)) h.stands ∙ w.is; counts = h.counts };
    single = λ d q r row other at with_other alike.
        has_shape.single d q r row other at with_other
        (read.single d d (set_of s.tables d q) (set_of s.tables d r) row.count other.count (has_shape.sound d q row at) (has_shape.sound d r other with_other) alike);
    root =
        let m = many s.root sound.only refl in
        let n = len-graph_of s.dict lone (triples_of s) sound.known in
        (λ is. let e = m.0 is in omega (arith, e, n), λ e. m.1 (omega (arith, e, n)));
  }

-- ---- how many rows there are

below_of_test : (n : ℕ) → nat_le 2 n ≡ false → n < 2
below_of_test n h = grind (arith, nat_tests)

triple_back : List Term → Triple
triple_back ts = record { s = get_or ts 0 (Iri []); p = get_or ts 1 (Iri []); o = get_or ts 2 (Iri []) }

len-tuples : (G : Graph) → set.len (tuples_of G) ≡ set.len G
unfolding triple_back
len-tuples G = len-image triples_total exact_triples (lists_total terms_total) (slice_cmp-IsAntisymmetric exact_terms) tuple_of G (λ t there u other alike. ap triple_back alike)

module _ (mixed : ℕ → ℕ → ℕ → ℕ → ℕ) (s : StoreState) (stands : Stands mixed s) where
  rows : (d : ℕ) → ℕ
  rows d = map.len (rows_at s.tables d)

  rows_are : (d : ℕ) (S : FinSet (set_cmp term_cmp)) → ((T : TupleSet term_cmp) (n : ℕ) → IsRowOf term_cmp (tuples_of (graph s)) d T n → set.contains S T ≡ true)
      → ((T : TupleSet term_cmp) → set.contains S T ≡ true → (n : ℕ) × InShape term_cmp (tuples_of (graph s)) d T n) → map.len (rows_at s.tables d) ≡ set.len S
  rows_are d S into onto = len-names total exact (sets_total terms_total exact_terms) (sets_exact terms_total exact_terms) (row_tuples s d) (rows_at s.tables d) S (record {
    into = λ r row at. into (row_tuples s d r) row.count (in_shape terms_total exact_terms (tuples_of (graph s)) d (row_tuples s d r) row.count (stands.sound d r row at)).1;
    onto = λ T e. let n = onto T e in let h = stands.complete d T n.0 n.1 in (h.number, h.row, h.there, h.stands);
    apart = λ q r row other at with_other alike. stands.single d q r row other at with_other alike;
    parts = λ r row at. refl;
  })

  no_rows : (d : ℕ) → set.len (graph s) < 2 → map.len (rows_at s.tables d) ≡ 0
  no_rows d few = len-names total exact (sets_total terms_total exact_terms) (sets_exact terms_total exact_terms) (row_tuples s d) (rows_at s.tables d) set.empty (record {
    into = λ r row at. absurd (
        let large = (in_shape terms_total exact_terms (tuples_of (graph s)) d (row_tuples s d r) row.count (stands.sound d r row at)).0 in
        let n = len-tuples (graph s) in
        omega (arith, large, n, few));
    onto = λ T e. absurd (let f : false ≡ true = sym (set.contains-empty (set_cmp term_cmp) T) ∙ e in let g : ⊥ = cc in g);
    apart = λ q r row other at with_other alike. stands.single d q r row other at with_other alike;
    parts = λ r row at. refl;
  }) ∙ set.len-empty (set_cmp term_cmp)

  counted : (d n : ℕ) → (2 ≤ set.len (graph s) → map.len (rows_at s.tables d) ≡ n) → map.len (rows_at s.tables d) ≡ rows_in (graph s) n
  counted d n large = by (nat_le 2 (set.len (graph s))) refl where
    by : (b : Bool) → nat_le 2 (set.len (graph s)) ≡ b → map.len (rows_at s.tables d) ≡ cond b n 0
    by true e = large (le_of_test (set.len (graph s)) e)
    by false e = no_rows d (below_of_test (set.len (graph s)) e)

  pub two_rows : map.len s.tables.two.rows ≡ rows_in (graph s) (set.len (two term_cmp (tuples_of (graph s))))
  two_rows = counted 2 (set.len (two term_cmp (tuples_of (graph s)))) (λ large. rows_are 2 (two term_cmp (tuples_of (graph s))) (λ T n row. row.0)
      (λ T e. (count2 term_cmp (tuples_of (graph s)) T, shape_in terms_total exact_terms (tuples_of (graph s)) 2 T (count2 term_cmp (tuples_of (graph s)) T) (let n = len-tuples (graph s) in omega (arith, large, n)) (e, refl))))

  pub one_rows : map.len s.tables.one.rows ≡ rows_in (graph s) (set.len (one term_cmp (tuples_of (graph s))))
  one_rows = counted 1 (set.len (one term_cmp (tuples_of (graph s)))) (λ large. rows_are 1 (one term_cmp (tuples_of (graph s))) (λ T n row. row.0)
      (λ T e. (count1 term_cmp (tuples_of (graph s)) T, shape_in terms_total exact_terms (tuples_of (graph s)) 1 T (count1 term_cmp (tuples_of (graph s)) T) (let n = len-tuples (graph s) in omega (arith, large, n)) (e, refl))))

-- ---- the figures of a graph

pub figures_triples : (G : Graph) → set.len G ≡ (figures_of G).triples
unfolding figures_of
figures_triples G = refl

pub figures_terms : (G : Graph) → set.len (terms_of G) ≡ (figures_of G).terms
unfolding figures_of
figures_terms G = refl

pub figures_two : (G : Graph) → rows_in G (set.len (two term_cmp (tuples_of G))) ≡ (figures_of G).two
unfolding figures_of
figures_two G = refl

pub figures_one : (G : Graph) → rows_in G (set.len (one term_cmp (tuples_of G))) ≡ (figures_of G).one
unfolding figures_of
figures_one G = refl
