-- All terms of a graph are gone through, each once; so rows over numbers that stand for terms are, read, those over the graph.
use Rattle.std.specs.Prelude.{◌≡◌, ℕ, ◌||◌, Bool, true, nat_eq, List, [], ◌∷◌, map, refl}
use Rattle.std.proofs.Common.{sym, ◌∙◌, ap, subst}
use Rattle.std.proofs.lemmas.Cmp.{lists_total, nat_cmp_total}
use Rattle.std.proofs.lemmas.List.Sorted.{list_any-IsPermutation}
use Rattle.std.proofs.lemmas.Map.Keys.{IsDistinct-IsPermutation}
use Rattle.std.specs.List.{AllByRecursion, IsDistinct, list_all, list_any}
use Rattle.std.specs.List.Sorted.{IsPermutation}
use Rattle.std.specs.Ordering.{eq_by_cmp, nat_cmp}
use Rattle.std.specs.FinSet.{nat_cmp-IsAntisymmetric, slice_cmp-IsAntisymmetric}
use Rattle.std.specs.FinSet as set
use Rattle.hypertrie_model.specs.Sets.{TupleSet, has}
use Rattle.hypertrie_model.specs.SetLaws.{or_right, and_both}
use Rattle.rdf_model.specs.Terms.{Term, Triple}
use Rattle.rdf_model.specs.Texts.{canon}
use Rattle.rdf_model.specs.Graph.{Graph, term_cmp, terms_total, exact_terms, triples_total, exact_triples}
use Rattle.set_image.specs.Images.{image}
use Rattle.set_image.specs.ImageLaws.{in_image, image_in}
use Rattle.tuple_image.specs.TupleImages.{IsOver, IsOneToOneWhere}
use Rattle.tuple_image.specs.TupleLaws.{over-slice}
use Rattle.rdf_model.specs.GraphTerms.{terms_of}
use Rattle.graph_shape.specs.GraphShapes.{tuple_of, tuples_of}
use Rattle.query_grammar.specs.Meaning.{Query, Pattern, Place, LabelAt, Const}
use Rattle.bag_model.specs.Answers as bag_answers
use Rattle.bag_model.specs.AnswerLaws.{chosen-alike}
use Rattle.bag_model.specs.ListLaws.{flips}
use Rattle.bag_model.specs.Solutions as bag
use Rattle.bag_model.specs.Solutions.{Rest, IsUniverse, HaveLabels}
use Rattle.bag_model.specs.SolutionLaws.{exact_elements, rows_alike}
use Rattle.solution_model.specs.Answers.{chosen_rows}
use Rattle.solution_model.specs.Labels.{IsLabelled}
use Rattle.solution_model.specs.Members.{members, any-members, distinct-members}
use Rattle.solution_model.specs.OrderLaws.{same-ordered}
use Rattle.solution_model.specs.Reading.{read_row, AreRead}
use Rattle.solution_model.specs.ReadLaws.{all_rows-read, all_rows_known, chosen_rows-read, universe-read}
use Rattle.solution_model.specs.Rests.{pattern_labels, slice_by, rest_of}
use Rattle.solution_model.specs.RestLaws.{rows_of_rests}
use Rattle.solution_model.specs.Rows.{ordered_terms, column_labels, all_rows}

-- a term of the graph
abbrev pub is_term : Graph → Term → Bool
is_term G x = set.contains (terms_of G) x

pub any-ordered_terms : (G : Graph) (x : Term) → list_any (eq_by_cmp term_cmp x) (ordered_terms G) ≡ is_term G x
unfolding ordered_terms
any-ordered_terms G x =
    sym (list_any-IsPermutation (eq_by_cmp term_cmp x) (members (terms_of G)) (ordered_terms G) (same-ordered canon (members (terms_of G))))
    ∙ any-members terms_total exact_terms (terms_of G) x

pub distinct-ordered_terms : (G : Graph) → IsDistinct (eq_by_cmp term_cmp) (ordered_terms G)
unfolding ordered_terms
distinct-ordered_terms G = IsDistinct-IsPermutation (eq_by_cmp term_cmp) (flips (exact_elements terms_total exact_terms)) (members (terms_of G)) (ordered_terms G) (same-ordered canon (members (terms_of G)))
    (distinct-members terms_total exact_terms (terms_of G))

module _ (G : Graph) (t : Triple) (there : set.contains G t ≡ true) where
  terms_split : (x : Term) → is_term G x ≡ (set.contains (image term_cmp (λ t. t.s) G) x || (set.contains (image term_cmp (λ t. t.p) G) x || set.contains (image term_cmp (λ t. t.o) G) x))
  unfolding terms_of
  terms_split x =
      set.contains-union terms_total (image term_cmp (λ t. t.s) G) (set.union (image term_cmp (λ t. t.p) G) (image term_cmp (λ t. t.o) G)) x
      ∙ ap (λ b. set.contains (image term_cmp (λ t. t.s) G) x || b) (set.contains-union terms_total (image term_cmp (λ t. t.p) G) (image term_cmp (λ t. t.o) G) x)

  member : (f : Triple → Term) → set.contains (image term_cmp f G) (f t) ≡ true
  member f = image_in triples_total exact_triples terms_total exact_terms f G t there

  or_left : (a b : Bool) → a ≡ true → (a || b) ≡ true
  or_left a b e = ap (λ c. c || b) e

  tuple_within : list_all (is_term G) (tuple_of t) ≡ true
  tuple_within =
      let s : is_term G t.s ≡ true = terms_split t.s ∙ or_left _ _ (member (λ t. t.s)) in
      let p : is_term G t.p ≡ true = terms_split t.p ∙ or_right _ _ (or_left _ _ (member (λ t. t.p))) in
      let o : is_term G t.o ≡ true = terms_split t.o ∙ or_right _ _ (or_right _ _ (member (λ t. t.o))) in
      (λ j. all_of (s j) (p j) (o j)) where
        all_of : Bool → Bool → Bool → Bool
        all_of a b c = list_all (λ x. x) (a ∷ b ∷ c ∷ [])

over-tuples_of : (G : Graph) → IsOver (is_term G) (tuples_of G)
over-tuples_of G u e =
    let v = in_image triples_total exact_triples (lists_total terms_total) (slice_cmp-IsAntisymmetric exact_terms) tuple_of G u e in
    subst (λ w. list_all (is_term G) w ≡ true) v.is (tuple_within G v.member v.there)

module _ (known : Term → Bool) where
  over-slice_by : (H : TupleSet term_cmp) (place : Place) (i : ℕ) → IsOver known H → IsOver known (slice_by place i H)
  over-slice_by H (LabelAt l) i over = over
  over-slice_by H (Const t) i over = over-slice terms_total exact_terms terms_total exact_terms (λ x. x) known (λ x y _ _ e. e) H i t over

  -- what a pattern leaves has no other terms
  pub over-rest_of : (G : Graph) → IsOver known (tuples_of G) → (p : Pattern) → IsOver known (rest_of G p).tuples
  over-rest_of G over p =
      let o = over-slice_by (tuples_of G) p.o 2 over in
      let v = over-slice_by (slice_by p.o 2 (tuples_of G)) p.p 1 o in
      over-slice_by (slice_by p.p 1 (slice_by p.o 2 (tuples_of G))) p.s 0 v

listed : (G : Graph) (t : List Term) → list_all (is_term G) t ≡ true → AllByRecursion (λ x. list_any (eq_by_cmp term_cmp x) (ordered_terms G) ≡ true) t
listed G [] all = tt
listed G (x ∷ t) all = let two = and_both (is_term G x) (list_all (is_term G) t) all in (any-ordered_terms G x ∙ two.0, listed G t two.1)

pub terms_universe : (G : Graph) (patterns : List Pattern) → IsUniverse term_cmp (ordered_terms G) (map (rest_of G) patterns)
terms_universe G patterns = record { distinct = distinct-ordered_terms G; whole = whole patterns } where
  whole : (ps : List Pattern) → AllByRecursion (λ r. (t : List Term) → has r.tuples t ≡ true → AllByRecursion (λ x. list_any (eq_by_cmp term_cmp x) (ordered_terms G) ≡ true) t) (map (rest_of G) ps)
  whole [] = tt
  whole (p ∷ ps) = ((λ t e. listed G t (over-rest_of (is_term G) G (over-tuples_of G) p t e)), whole ps)

pub have_labels : (q : Query) (G : Graph) → IsLabelled q → HaveLabels term_cmp q.labels (map (rest_of G) q.patterns)
have_labels q G labelled l lt = same q.patterns ∙ labelled.each l lt where
  same : (ps : List Pattern) → list_any (λ r. list_any (nat_eq l) r.labels) (map (rest_of G) ps) ≡ list_any (λ p. list_any (nat_eq l) (pattern_labels p)) ps
  same [] = refl
  same (p ∷ ps) = ap (λ b. list_any (nat_eq l) (pattern_labels p) || b) (same ps)

-- which terms are gone through makes no difference to the rows, as long as those of the graph are among them
pub rows_over : (q : Query) (G : Graph) (v : List Term) → IsLabelled q → IsUniverse term_cmp v (map (rest_of G) q.patterns)
    → IsPermutation (all_rows q G) (bag.all_rows term_cmp v q.labels (map (rest_of G) q.patterns) (column_labels q))
unfolding all_rows
rows_over q G v labelled whole = subst (λ rows. IsPermutation rows (bag.all_rows term_cmp v q.labels (map (rest_of G) q.patterns) (column_labels q))) (sym (rows_of_rests (ordered_terms G) q G labelled.places))
    (rows_alike terms_total exact_terms (ordered_terms G) v q.labels (map (rest_of G) q.patterns) (column_labels q) (terms_universe G q.patterns) whole (have_labels q G labelled))

module _ (q : Query) (G : Graph) (labelled : IsLabelled q) (term : ℕ → Term) (known : ℕ → Bool) (one : IsOneToOneWhere known term) (u : List ℕ) (rests : List (Rest nat_cmp)) (all : list_all known u ≡ true) (are : AreRead nat_cmp term_cmp term known rests (map (rest_of G) q.patterns)) (whole : IsUniverse nat_cmp u rests) where
  pub rows_read : IsPermutation (all_rows q G) (map (read_row term) (bag.all_rows nat_cmp u q.labels rests (column_labels q)))
  rows_read = subst (λ rows. IsPermutation (all_rows q G) rows)
      (all_rows-read nat_cmp_total nat_cmp-IsAntisymmetric terms_total exact_terms term known one u q.labels rests (map (rest_of G) q.patterns) (column_labels q) are all)
      (rows_over q G (map term u) labelled (universe-read nat_cmp_total nat_cmp-IsAntisymmetric terms_total exact_terms term known one u rests (map (rest_of G) q.patterns) all are whole))

  pub chosen_rows_read : IsPermutation (chosen_rows q G) (map (read_row term) (bag_answers.chosen_rows nat_cmp q.distinct (bag.all_rows nat_cmp u q.labels rests (column_labels q))))
  unfolding chosen_rows
  chosen_rows_read = subst (λ rows. IsPermutation (chosen_rows q G) rows)
      (chosen_rows-read nat_cmp_total nat_cmp-IsAntisymmetric terms_total exact_terms term known one q.distinct (bag.all_rows nat_cmp u q.labels rests (column_labels q)) (all_rows_known known nat_cmp u q.labels rests (column_labels q) all))
      (chosen-alike terms_total exact_terms q.distinct (all_rows q G) (map (read_row term) (bag.all_rows nat_cmp u q.labels rests (column_labels q))) rows_read)
