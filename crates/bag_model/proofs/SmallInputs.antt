-- Rows of small sets: repeats, DISTINCT, labels that stand twice, no pattern, no tuple.
use Rattle.std.specs.Prelude.{◌≡◌, ℕ, ◌&&◌, Bool, true, List, [], ◌∷◌, map, refl, Option, None, Some}
use Rattle.std.proofs.Common.{◌∙◌, ap}
use Rattle.std.proofs.lemmas.Cmp.{nat_cmp_total, lists_total}
use Rattle.std.proofs.lemmas.List.Elements.{filter_agree}
use Rattle.std.specs.FinSet as set
use Rattle.std.specs.List.{filter, list_any}
use Rattle.std.specs.Ordering.{nat_cmp}
use Rattle.bag_model.specs.Answers.{chosen_rows}
use Rattle.bag_model.specs.Solutions.{Rest, image, assignments, row_of, is_solution, all_rows}
use Rattle.bag_model.specs.SolutionLaws.{same_assignment}

-- a pattern whose tuples are listed
record Listed : Type 0 where
  tuples : List (List ℕ)
  labels : List ℕ

abbrev rest_of : Listed → Rest nat_cmp
rest_of g = record { tuples = set.from_list g.tuples; labels = g.labels }

abbrev passes : List Listed → List ℕ → Bool
passes [] a = true
passes (g ∷ gs) a = list_any (same_assignment nat_cmp (image a g.labels)) g.tuples && passes gs a

passed : (gs : List Listed) (a : List ℕ) → is_solution nat_cmp (map rest_of gs) a ≡ passes gs a
passed [] a = refl
passed (g ∷ gs) a = (λ j. set.contains-from_list (lists_total nat_cmp_total) g.tuples (image a g.labels) j && passed gs a j)

rows : (n : ℕ) (gs : List Listed) (columns : List (Option ℕ)) → all_rows nat_cmp (0 ∷ 1 ∷ 2 ∷ 3 ∷ []) n (map rest_of gs) columns ≡ map (row_of columns) (filter (passes gs) (assignments (0 ∷ 1 ∷ 2 ∷ 3 ∷ []) n))
rows n gs columns = ap (map (row_of columns)) (filter_agree (is_solution nat_cmp (map rest_of gs)) (passes gs) (passed gs) (assignments (0 ∷ 1 ∷ 2 ∷ 3 ∷ []) n))

-- ?s ?p ?o over two triples with one subject and one predicate
abbrev two_triples : List Listed
two_triples = record { tuples = (0 ∷ 1 ∷ 2 ∷ []) ∷ (0 ∷ 1 ∷ 3 ∷ []) ∷ []; labels = 0 ∷ 1 ∷ 2 ∷ [] } ∷ []

repeats : all_rows nat_cmp (0 ∷ 1 ∷ 2 ∷ 3 ∷ []) 3 (map rest_of two_triples) (Some 0 ∷ []) ≡ (Some 0 ∷ []) ∷ (Some 0 ∷ []) ∷ []
repeats = rows 3 two_triples (Some 0 ∷ []) ∙ refl

distinct : chosen_rows nat_cmp true (all_rows nat_cmp (0 ∷ 1 ∷ 2 ∷ 3 ∷ []) 3 (map rest_of two_triples) (Some 0 ∷ [])) ≡ (Some 0 ∷ []) ∷ []
distinct = ap (chosen_rows nat_cmp true) repeats ∙ refl

-- a column whose variable is in no pattern
without_label : all_rows nat_cmp (0 ∷ 1 ∷ 2 ∷ 3 ∷ []) 3 (map rest_of two_triples) (None ∷ []) ≡ (None ∷ []) ∷ (None ∷ []) ∷ []
without_label = rows 3 two_triples (None ∷ []) ∙ refl

-- the predicate is fixed, and the object is a blank node of the query
abbrev fixed_predicate : List Listed
fixed_predicate = record { tuples = (0 ∷ 2 ∷ []) ∷ (0 ∷ 3 ∷ []) ∷ []; labels = 0 ∷ 1 ∷ [] } ∷ []

blank_node : all_rows nat_cmp (0 ∷ 1 ∷ 2 ∷ 3 ∷ []) 2 (map rest_of fixed_predicate) (Some 0 ∷ []) ≡ (Some 0 ∷ []) ∷ (Some 0 ∷ []) ∷ []
blank_node = rows 2 fixed_predicate (Some 0 ∷ []) ∙ refl

-- ?x ?p ?x, and ?x ?x ?x
abbrev diagonal : List ℕ → List Listed
diagonal labels = record { tuples = (0 ∷ 0 ∷ 0 ∷ []) ∷ (0 ∷ 1 ∷ 0 ∷ []) ∷ (0 ∷ 1 ∷ 2 ∷ []) ∷ []; labels = labels } ∷ []

at_two_places : all_rows nat_cmp (0 ∷ 1 ∷ 2 ∷ 3 ∷ []) 2 (map rest_of (diagonal (0 ∷ 1 ∷ 0 ∷ []))) (Some 0 ∷ Some 1 ∷ []) ≡ (Some 0 ∷ Some 0 ∷ []) ∷ (Some 0 ∷ Some 1 ∷ []) ∷ []
at_two_places = rows 2 (diagonal (0 ∷ 1 ∷ 0 ∷ [])) (Some 0 ∷ Some 1 ∷ []) ∙ refl

at_three_places : all_rows nat_cmp (0 ∷ 1 ∷ 2 ∷ 3 ∷ []) 1 (map rest_of (diagonal (0 ∷ 0 ∷ 0 ∷ []))) (Some 0 ∷ []) ≡ (Some 0 ∷ []) ∷ []
at_three_places = rows 1 (diagonal (0 ∷ 0 ∷ 0 ∷ [])) (Some 0 ∷ []) ∙ refl

no_pattern : all_rows nat_cmp [] 0 [] [] ≡ [] ∷ []
no_pattern = refl

no_tuple : all_rows nat_cmp (0 ∷ 1 ∷ 2 ∷ 3 ∷ []) 2 (map rest_of (record { tuples = []; labels = 0 ∷ 1 ∷ [] } ∷ [])) (Some 1 ∷ []) ≡ []
no_tuple = rows 2 (record { tuples = []; labels = 0 ∷ 1 ∷ [] } ∷ []) (Some 1 ∷ []) ∙ refl
