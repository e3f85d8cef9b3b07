-- Rows of small queries over small graphs: repeats, DISTINCT, blank nodes, labels that stand twice, no pattern, unknown terms,
-- and the texts of rows.
use Rattle.std.specs.Prelude.{◌≡◌, ℕ, zero, suc, ◌<◌, ◌&&◌, ◌||◌, Bool, true, false, not, nat_eq, List, [], ◌∷◌, map, codes, refl, Option, None, Some, IfSome}
use Rattle.std.proofs.Common.{sym, ◌∙◌, ap, subst, arith}
use Rattle.std.proofs.lemmas.Cmp.{lists_total}
use Rattle.std.proofs.lemmas.List.Elements.{filter_agree}
use Rattle.std.specs.FinSet as set
use Rattle.std.specs.FinSet.{slice_cmp-IsAntisymmetric}
use Rattle.std.specs.List.{AllByRecursion, IsDistinct, filter, list_all, list_any}
use Rattle.std.specs.List.Sorted.{IsPermutation}
use Rattle.std.specs.Ordering.{eq_by_cmp}
use Rattle.hypertrie_model.specs.Sets.{has}
use Rattle.hypertrie_model.specs.SetLaws.{and_both, or_cases, tied-is}
use Rattle.rdf_model.specs.Terms.{Term, Iri, Literal, Typed, Tagged, Triple}
use Rattle.rdf_model.specs.Texts.{xsd_string}
use Rattle.rdf_model.specs.Graph.{term_cmp, triple_cmp, terms_total, exact_terms, triples_total, exact_triples}
use Rattle.set_image.specs.ImageLaws.{in_image}
use Rattle.tuple_image.specs.TupleImages.{IsOver}
use Rattle.graph_shape.specs.GraphShapes.{tuple_of, tuples_of}
use Rattle.query_grammar.specs.Meaning.{Query, Pattern, Column, Place, LabelAt, Const}
use Rattle.bag_model.specs.Answers as bag
use Rattle.bag_model.specs.AnswerLaws.{chosen-alike}
use Rattle.bag_model.specs.Solutions.{assignments, row_of, IsUniverse}
use Rattle.solution_model.specs.Answers.{chosen_rows}
use Rattle.solution_model.specs.Labels.{IsLabelled}
use Rattle.solution_model.specs.Rests.{pattern_labels, rest_of}
use Rattle.solution_model.specs.RestLaws.{rows_of_rests}
use Rattle.solution_model.specs.Rows.{Row, term_under, has_triple, is_solution, column_labels, all_rows}
use Rattle.solution_model.specs.Texts.{row_text, header_text}
use Rattle.solution_model.specs.UniverseLaws.{over-rest_of, rows_over}

-- ---- graphs that are listed

abbrev same : Triple → Triple → Bool
same t u = eq_by_cmp triple_cmp t u

abbrev has_listed : List Triple → Option Term → Option Term → Option Term → Bool
has_listed ts (Some s) (Some p) (Some o) = list_any (same (record { s = s; p = p; o = o })) ts
has_listed ts _ _ _ = false

abbrev passes : List Triple → List Pattern → List Term → Bool
passes ts [] a = true
passes ts (p ∷ ps) a = has_listed ts (term_under a p.s) (term_under a p.p) (term_under a p.o) && passes ts ps a

has_same : (ts : List Triple) (s p o : Option Term) → has_triple (set.from_list ts) s p o ≡ has_listed ts s p o
has_same ts (Some s) (Some p) (Some o) = set.contains-from_list triples_total ts (record { s = s; p = p; o = o })
has_same ts (Some s) (Some p) None = refl
has_same ts (Some s) None o = refl
has_same ts None p o = refl

passed : (ts : List Triple) (ps : List Pattern) (a : List Term) → is_solution (set.from_list ts) ps a ≡ passes ts ps a
passed ts [] a = refl
passed ts (p ∷ ps) a = (λ j. has_same ts (term_under a p.s) (term_under a p.p) (term_under a p.o) j && passed ts ps a j)

-- the rows over the terms v
abbrev listed_rows : List Triple → List Term → Query → List Row
listed_rows ts v q = map (row_of (column_labels q)) (filter (passes ts q.patterns) (assignments v q.labels))

-- ---- what is computed of a graph and a query

abbrev among : List Term → Term → Bool
among v x = list_any (eq_by_cmp term_cmp x) v

abbrev within : List Term → List Triple → Bool
within v ts = list_all (λ t. among v t.s && (among v t.p && (among v t.o && true))) ts

abbrev apart : Term → List Term → Bool
apart x ys = list_all (λ y. not (eq_by_cmp term_cmp x y)) ys

abbrev distinct : List Term → Bool
distinct [] = true
distinct (x ∷ xs) = apart x xs && distinct xs

all_apart : (x : Term) (ys : List Term) → apart x ys ≡ true → AllByRecursion (λ y. eq_by_cmp term_cmp x y ≡ false) ys
all_apart x [] e = tt
all_apart x (y ∷ ys) e = let two = and_both (not (eq_by_cmp term_cmp x y)) (apart x ys) e in (flipped (eq_by_cmp term_cmp x y) two.0, all_apart x ys two.1) where
  flipped : (b : Bool) → not b ≡ true → b ≡ false
  flipped true e = sym e
  flipped false e = refl

is_distinct : (v : List Term) → distinct v ≡ true → IsDistinct (eq_by_cmp term_cmp) v
unfolding IsDistinct
is_distinct [] e = tt
is_distinct (x ∷ xs) e = let two = and_both (apart x xs) (distinct xs) e in (all_apart x xs two.0, is_distinct xs two.1)

found : (v : List Term) (ts : List Triple) (t : Triple) → within v ts ≡ true → list_any (same t) ts ≡ true → list_all (among v) (tuple_of t) ≡ true
found v [] t e there = absurd (let f : ⊥ = cc in f)
found v (u ∷ ts) t e there =
    let two = and_both (list_all (among v) (tuple_of u)) (within v ts) e in
    or_cases (same t u) (list_any (same t) ts) there (list_all (among v) (tuple_of t) ≡ true)
    (λ here. ap (λ w. list_all (among v) (tuple_of w)) (tied-is exact_triples t u here) ∙ two.0)
    (λ later. found v ts t two.1 later)

all_among : (v t : List Term) → list_all (among v) t ≡ true → AllByRecursion (λ x. among v x ≡ true) t
all_among v [] e = tt
all_among v (x ∷ t) e = let two = and_both (among v x) (list_all (among v) t) e in (two.0, all_among v t two.1)

module _ (ts : List Triple) (v : List Term) (holds : within v ts ≡ true) where
  over : IsOver (among v) (tuples_of (set.from_list ts))
  over u e =
      let m = in_image triples_total exact_triples (lists_total terms_total) (slice_cmp-IsAntisymmetric exact_terms) tuple_of (set.from_list ts) u e in
      subst (λ w. list_all (among v) w ≡ true) m.is (found v ts m.member holds (sym (set.contains-from_list triples_total ts m.member) ∙ m.there))

  universe : distinct v ≡ true → (ps : List Pattern) → IsUniverse term_cmp v (map (rest_of (set.from_list ts)) ps)
  universe d ps = record { distinct = is_distinct v d; whole = whole ps } where
    whole : (ps : List Pattern) → AllByRecursion (λ r. (t : List Term) → has r.tuples t ≡ true → AllByRecursion (λ x. among v x ≡ true) t) (map (rest_of (set.from_list ts)) ps)
    whole [] = tt
    whole (p ∷ ps) = ((λ t e. all_among v t (over-rest_of (among v) (set.from_list ts) over p t e)), whole ps)

  rows_are : (q : Query) → distinct v ≡ true → IsLabelled q → IsPermutation (all_rows q (set.from_list ts)) (listed_rows ts v q)
  rows_are q d labelled = subst (IsPermutation (all_rows q (set.from_list ts)))
      (sym (rows_of_rests v q (set.from_list ts) labelled.places) ∙ ap (map (row_of (column_labels q))) (filter_agree (is_solution (set.from_list ts) q.patterns) (passes ts q.patterns) (passed ts q.patterns) (assignments v q.labels)))
      (rows_over q (set.from_list ts) v labelled (universe d q.patterns))

  chosen_are : (q : Query) → distinct v ≡ true → IsLabelled q → IsPermutation (chosen_rows q (set.from_list ts)) (bag.chosen_rows term_cmp q.distinct (listed_rows ts v q))
  unfolding chosen_rows
  chosen_are q d labelled = chosen-alike terms_total exact_terms q.distinct (all_rows q (set.from_list ts)) (listed_rows ts v q) (rows_are q d labelled)

-- ---- the rows

abbrev a : Term
a = Iri (codes "x:a")

abbrev b : Term
b = Iri (codes "x:b")

abbrev c : Term
c = Iri (codes "x:c")

abbrev p : Term
p = Iri (codes "x:p")

abbrev triple : Term → Term → Term → Triple
triple s v o = record { s = s; p = v; o = o }

-- one subject and one predicate
abbrev two : List Triple
two = triple a p b ∷ triple a p c ∷ []

abbrev terms : List Term
terms = a ∷ b ∷ c ∷ p ∷ []

abbrev pattern : Place → Place → Place → Pattern
pattern s v o = record { s = s; p = v; o = o }

abbrev column : Option ℕ → Column
column label = record { name = []; label = label }

abbrev query : ℕ → List (Option ℕ) → Bool → List Pattern → Query
query n columns distinct patterns = record { columns = map column columns; labels = n; distinct = distinct; patterns = patterns; limit = None; offset = 0 }

abbrev spo : Pattern
spo = pattern (LabelAt 0) (LabelAt 1) (LabelAt 2)

three : (columns : List (Option ℕ)) → AllByRecursion (λ v. IfSome v (λ l. l < 3)) (column_labels (query 3 columns false (spo ∷ []))) → (chosen : Bool) → IsLabelled (query 3 columns chosen (spo ∷ []))
three columns below chosen = record { each = stands; places = ((omega arith, (omega arith, (omega arith, tt))), tt); columns = below } where
  stands : (l : ℕ) → l < 3 → list_any (λ q. list_any (nat_eq l) (pattern_labels q)) (spo ∷ []) ≡ true
  stands zero lt = refl
  stands (suc zero) lt = refl
  stands (suc (suc zero)) lt = refl
  stands (suc (suc (suc l))) lt = absurd (omega arith)

-- SELECT ?s { ?s ?p ?o }
repeats : IsPermutation (chosen_rows (query 3 (Some 0 ∷ []) false (spo ∷ [])) (set.from_list two)) ((Some a ∷ []) ∷ (Some a ∷ []) ∷ [])
repeats = chosen_are two terms refl (query 3 (Some 0 ∷ []) false (spo ∷ [])) refl (three (Some 0 ∷ []) (omega arith, tt) false)

-- SELECT DISTINCT ?s { ?s ?p ?o }
without_repeats : IsPermutation (chosen_rows (query 3 (Some 0 ∷ []) true (spo ∷ [])) (set.from_list two)) ((Some a ∷ []) ∷ [])
without_repeats = chosen_are two terms refl (query 3 (Some 0 ∷ []) true (spo ∷ [])) refl (three (Some 0 ∷ []) (omega arith, tt) true)

-- SELECT ?z { ?s ?p ?o }
no_label : IsPermutation (chosen_rows (query 3 (None ∷ []) false (spo ∷ [])) (set.from_list two)) ((None ∷ []) ∷ (None ∷ []) ∷ [])
no_label = chosen_are two terms refl (query 3 (None ∷ []) false (spo ∷ [])) refl (three (None ∷ []) (tt, tt) false)

two_labels : (q : Pattern) → ((l : ℕ) → l < 2 → list_any (nat_eq l) (pattern_labels q) ≡ true) → AllByRecursion (λ l. l < 2) (pattern_labels q) → (columns : List (Option ℕ)) → AllByRecursion (λ v. IfSome v (λ l. l < 2)) (column_labels (query 2 columns false (q ∷ []))) → IsLabelled (query 2 columns false (q ∷ []))
two_labels q stands below columns all = record { each = λ l lt. or_none (stands l lt); places = (below, tt); columns = all } where
  or_none : {b : Bool} → b ≡ true → (b || false) ≡ true
  or_none e = ap (λ b. (b || false)) e

-- SELECT ?s { ?s <x:p> _:o }: the blank node is a label
abbrev blank : Pattern
blank = pattern (LabelAt 0) (Const p) (LabelAt 1)

blank_node : IsPermutation (chosen_rows (query 2 (Some 0 ∷ []) false (blank ∷ [])) (set.from_list two)) ((Some a ∷ []) ∷ (Some a ∷ []) ∷ [])
blank_node = chosen_are two terms refl (query 2 (Some 0 ∷ []) false (blank ∷ [])) refl (two_labels blank (λ l lt. at l lt) (omega arith, (omega arith, tt)) (Some 0 ∷ []) (omega arith, tt)) where
  at : (l : ℕ) → l < 2 → list_any (nat_eq l) (pattern_labels blank) ≡ true
  at zero lt = refl
  at (suc zero) lt = refl
  at (suc (suc l)) lt = absurd (omega arith)

-- SELECT ?x ?p { ?x ?p ?x }
abbrev loops : List Triple
loops = triple a a a ∷ triple a p a ∷ triple a p b ∷ []

abbrev diagonal : Pattern
diagonal = pattern (LabelAt 0) (LabelAt 1) (LabelAt 0)

diagonals : IsPermutation (chosen_rows (query 2 (Some 0 ∷ Some 1 ∷ []) false (diagonal ∷ [])) (set.from_list loops)) ((Some a ∷ Some a ∷ []) ∷ (Some a ∷ Some p ∷ []) ∷ [])
diagonals = chosen_are loops terms refl (query 2 (Some 0 ∷ Some 1 ∷ []) false (diagonal ∷ [])) refl (two_labels diagonal (λ l lt. at l lt) (omega arith, (omega arith, (omega arith, tt))) (Some 0 ∷ Some 1 ∷ []) (omega arith, (omega arith, tt))) where
  at : (l : ℕ) → l < 2 → list_any (nat_eq l) (pattern_labels diagonal) ≡ true
  at zero lt = refl
  at (suc zero) lt = refl
  at (suc (suc l)) lt = absurd (omega arith)

-- SELECT * { } on the empty graph: one row of no column
no_pattern : IsPermutation (chosen_rows (query 0 [] false []) (set.from_list [])) ([] ∷ [])
no_pattern = chosen_are [] [] refl (query 0 [] false []) refl (record { each = λ l lt. absurd (omega arith); places = tt; columns = tt })

-- SELECT ?o { <x:none> ?p ?o }, and SELECT ?p { "a" ?p ?o }
abbrev from : Term → Pattern
from subject = pattern (Const subject) (LabelAt 0) (LabelAt 1)

from_labels : (subject : Term) (l : ℕ) → l < 2 → list_any (nat_eq l) (pattern_labels (from subject)) ≡ true
from_labels subject zero lt = refl
from_labels subject (suc zero) lt = refl
from_labels subject (suc (suc l)) lt = absurd (omega arith)

unknown : IsPermutation (chosen_rows (query 2 (Some 1 ∷ []) false (from (Iri (codes "x:none")) ∷ [])) (set.from_list two)) []
unknown = chosen_are two terms refl (query 2 (Some 1 ∷ []) false (from (Iri (codes "x:none")) ∷ [])) refl (two_labels (from (Iri (codes "x:none"))) (from_labels (Iri (codes "x:none"))) (omega arith, (omega arith, tt)) (Some 1 ∷ []) (omega arith, tt))

literal_subject : IsPermutation (chosen_rows (query 2 (Some 0 ∷ []) false (from (Literal (codes "a") (Typed xsd_string)) ∷ [])) (set.from_list two)) []
literal_subject = chosen_are two terms refl (query 2 (Some 0 ∷ []) false (from (Literal (codes "a") (Typed xsd_string)) ∷ [])) refl (two_labels (from (Literal (codes "a") (Typed xsd_string))) (from_labels (Literal (codes "a") (Typed xsd_string))) (omega arith, (omega arith, tt)) (Some 0 ∷ []) (omega arith, tt))

-- ---- texts

texts : row_text (Some a ∷ None ∷ Some (Literal (codes "t\t\n") (Tagged (codes "en"))) ∷ Some (Literal (codes "a") (Typed xsd_string)) ∷ []) ≡ codes "<x:a>\t\t\"t\\t\\n\"@en\t\"a\""
texts = refl

no_columns : row_text [] ≡ []
no_columns = refl

header : header_text (record { name = codes "x"; label = Some 0 } ∷ record { name = codes "p"; label = None } ∷ []) ≡ codes "?x\t?p"
header = refl
