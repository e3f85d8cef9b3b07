-- The image of a pattern is in the graph exactly where that of its labels is in the slice at its constants.
use Rattle.std.specs.Prelude.{◌≡◌, ℕ, zero, suc, ◌<◌, ◌≤◌, ◌&&◌, Bool, cond, List, [], ◌∷◌, ◌++◌, length, map, refl, Some}
use Rattle.std.proofs.Common.{sym, ◌∙◌, ap, subst, arith}
use Rattle.std.proofs.lemmas.Cmp.{lists_total}
use Rattle.std.proofs.lemmas.List.{append-nil}
use Rattle.std.proofs.lemmas.List.Elements.{filter_map-append}
use Rattle.std.specs.List.{AllByRecursion, cons_option, filter, flat_map, insert}
use Rattle.std.specs.FinSet.{slice_cmp-IsAntisymmetric}
use Rattle.std.specs.FinSet as set
use Rattle.hypertrie_model.specs.Sets.{TupleSet, has}
use Rattle.hypertrie_model.specs.Slices.{at}
use Rattle.hypertrie_model.specs.SliceLaws.{has-slice}
use Rattle.rdf_model.specs.Terms.{Term, Triple}
use Rattle.rdf_model.specs.Graph.{Graph, term_cmp, terms_total, exact_terms, triples_total, exact_triples}
use Rattle.set_image.specs.OneToOneLaws.{contains-image}
use Rattle.graph_shape.specs.GraphShapes.{tuple_of, tuples_of}
use Rattle.query_grammar.specs.Meaning.{Query, Pattern, Place, LabelAt, Const}
use Rattle.bag_model.specs.Solutions as bag
use Rattle.bag_model.specs.Solutions.{image, assignments, row_of}
use Rattle.solution_model.specs.Rows.{term_under, has_triple, has_image, is_solution, column_labels}
use Rattle.solution_model.specs.Rests.{place_labels, pattern_labels, slice_by, rest_of, AreBelow}

-- the triple is there exactly where its tuple is
contains-tuple : (G : Graph) (t : Triple) → has (tuples_of G) (tuple_of t) ≡ set.contains G t
contains-tuple G t = contains-image triples_total exact_triples (lists_total terms_total) (slice_cmp-IsAntisymmetric exact_terms) tuple_of G t (λ u _ same. one u t same) where
  one : (u t : Triple) → tuple_of u ≡ tuple_of t → u ≡ t
  one u t same =
      let s : u.s ≡ t.s = cc in
      let p : u.p ≡ t.p = cc in
      let o : u.o ≡ t.o = cc in
      (λ j. record { s = s j; p = p j; o = o j })

-- what stands at an index below the length
pub record IsAt {A : Type 0} (l : ℕ) (a : List A) : Type 0 where
  pub element : A
  pub is : at l a ≡ Some element

pub at_within : {A : Type 0} (l : ℕ) (a : List A) → l < length a → IsAt l a
at_within l [] lt = absurd (omega (arith, lt))
at_within zero (x ∷ a) lt = record { element = x; is = refl }
at_within (suc l) (x ∷ a) lt = let r = at_within l a (omega (arith, lt)) in record { element = r.element; is = r.is }

-- the term of a place whose labels are among those of the assignment
record HasTerm (a : List Term) (place : Place) : Type 0 where
  term : Term
  is : term_under a place ≡ Some term

term_there : (a : List Term) (place : Place) → AllByRecursion (λ l. l < length a) (place_labels place) → HasTerm a place
term_there a (LabelAt l) all = let r = at_within l a all.0 in record { term = r.element; is = r.is }
term_there a (Const t) all = record { term = t; is = refl }

insert_here : (u v : List Term) (i : ℕ) (t : Term) → i ≡ length u → insert (u ++ v) i t ≡ u ++ t ∷ v
insert_here [] v zero t e = refl
insert_here [] v (suc i) t e = absurd (omega (arith, e))
insert_here (x ∷ u) v zero t e = absurd (omega (arith, e))
insert_here (x ∷ u) v (suc i) t e = ap (λ w. x ∷ w) (insert_here u v i t (omega (arith, e)))

within_front : (u v : List Term) → length u ≤ length (u ++ v)
within_front [] v = omega arith
within_front (x ∷ u) v = let rest = within_front u v in omega (arith, rest)

-- one place: its constant is fixed, or its label's term stands there
at_place : (H : TupleSet term_cmp) (a : List Term) (place : Place) (i : ℕ) (u v : List Term) (x : Term) → i ≡ length u → term_under a place ≡ Some x
    → has (slice_by place i H) (u ++ (image a (place_labels place) ++ v)) ≡ has H (u ++ x ∷ v)
at_place H a (LabelAt l) i u v x e is = ap (λ r. has H (u ++ (cons_option r [] ++ v))) is
at_place H a (Const t) i u v x e is =
    let same : t ≡ x = cc in
    has-slice terms_total exact_terms H i t (u ++ v) (let le = within_front u v in omega (arith, e, le))
    ∙ ap (has H) (insert_here u v i t e)
    ∙ ap (λ z. has H (u ++ z ∷ v)) same

module _ {X : Type 0} (P : X → Type 0) where
  pub all_left : (xs ys : List X) → AllByRecursion P (xs ++ ys) → AllByRecursion P xs
  all_left [] ys all = tt
  all_left (x ∷ xs) ys all = (all.0, all_left xs ys all.1)

  pub all_right : (xs ys : List X) → AllByRecursion P (xs ++ ys) → AllByRecursion P ys
  all_right [] ys all = all
  all_right (x ∷ xs) ys all = all_right xs ys all.1

pub fixes_constants : (G : Graph) (p : Pattern) (a : List Term) → AllByRecursion (λ l. l < length a) (pattern_labels p) → has_image G a p ≡ has (rest_of G p).tuples (image a (rest_of G p).labels)
fixes_constants G p a all =
    let ls = place_labels p.s in
    let lp = place_labels p.p in
    let lo = place_labels p.o in
    let behind = all_right (λ l. l < length a) ls (lp ++ lo) all in
    let s = term_there a p.s (all_left (λ l. l < length a) ls (lp ++ lo) all) in
    let v = term_there a p.p (all_left (λ l. l < length a) lp lo behind) in
    let o = term_there a p.o (all_right (λ l. l < length a) lp lo behind) in
    let H = tuples_of G in
    let parts : image a (ls ++ (lp ++ lo)) ≡ image a ls ++ (image a lp ++ image a lo) = filter_map-append (λ l. at l a) ls (lp ++ lo) ∙ ap (λ t. image a ls ++ t) (filter_map-append (λ l. at l a) lp lo) in
    let last : has (slice_by p.o 2 H) (s.term ∷ v.term ∷ image a lo) ≡ has H (s.term ∷ v.term ∷ o.term ∷ []) =
    ap (λ t. has (slice_by p.o 2 H) (s.term ∷ v.term ∷ t)) (sym (append-nil (image a lo))) ∙ at_place H a p.o 2 (s.term ∷ v.term ∷ []) [] o.term refl o.is in
    let slices : has (rest_of G p).tuples (image a (ls ++ (lp ++ lo))) ≡ has H (s.term ∷ v.term ∷ o.term ∷ []) =
    ap (has (rest_of G p).tuples) parts
    ∙ at_place (slice_by p.p 1 (slice_by p.o 2 H)) a p.s 0 [] (image a lp ++ image a lo) s.term refl s.is
    ∙ at_place (slice_by p.o 2 H) a p.p 1 (s.term ∷ []) (image a lo) v.term refl v.is
    ∙ last in
    let image_is : has_image G a p ≡ set.contains G (record { s = s.term; p = v.term; o = o.term }) = (λ j. has_triple G (s.is j) (v.is j) (o.is j)) in
    image_is ∙ sym (slices ∙ contains-tuple G (record { s = s.term; p = v.term; o = o.term }))

same_solution : (G : Graph) (ps : List Pattern) (a : List Term) → AreBelow (length a) ps → is_solution G ps a ≡ bag.is_solution term_cmp (map (rest_of G) ps) a
same_solution G [] a all = refl
same_solution G (p ∷ ps) a all = (λ j. fixes_constants G p a all.0 j && same_solution G ps a all.1 j)

-- every assignment has an element for each label
module _ {A : Type 0} (P : List A → Type 0) where
  pub all_append : (xs ys : List (List A)) → AllByRecursion P xs → AllByRecursion P ys → AllByRecursion P (xs ++ ys)
  all_append [] ys p q = q
  all_append (x ∷ xs) ys p q = (p.0, all_append xs ys p.1 q)

pub assignment_lengths : {A : Type 0} (u : List A) (n : ℕ) → AllByRecursion (λ a. length a ≡ n) (assignments u n)
assignment_lengths u zero = (refl, tt)
assignment_lengths {A} u (suc n) = each (assignment_lengths u n) u where
  under : (x : A) (ts : List (List A)) → AllByRecursion (λ a. length a ≡ n) ts → AllByRecursion (λ a. length a ≡ suc n) (map (λ a. x ∷ a) ts)
  under x [] all = tt
  under x (t ∷ ts) all = (ap suc all.0, under x ts all.1)

  each : AllByRecursion (λ a. length a ≡ n) (assignments u n) → (v : List A) → AllByRecursion (λ a. length a ≡ suc n) (flat_map (λ x. map (λ a. x ∷ a) (assignments u n)) v)
  each all [] = tt
  each all (x ∷ v) = all_append (λ a. length a ≡ suc n) (map (λ a. x ∷ a) (assignments u n)) _ (under x (assignments u n) all) (each all v)

-- tests that agree on the members keep the same
pub filter_agree_on : {X : Type 0} (p q : X → Bool) (xs : List X) → AllByRecursion (λ x. p x ≡ q x) xs → filter p xs ≡ filter q xs
filter_agree_on p q [] all = refl
filter_agree_on p q (x ∷ xs) all = (λ j. cond (all.0 j) (x ∷ filter_agree_on p q xs all.1 j) (filter_agree_on p q xs all.1 j))

pub all_weaker : {X : Type 0} (P Q : X → Type 0) → ((x : X) → P x → Q x) → (xs : List X) → AllByRecursion P xs → AllByRecursion Q xs
all_weaker P Q gives [] all = tt
all_weaker P Q gives (x ∷ xs) all = (gives x all.0, all_weaker P Q gives xs all.1)

-- the rows are those of the slices at the patterns' constants, whichever terms are gone through
pub rows_of_rests : (v : List Term) (q : Query) (G : Graph) → AreBelow q.labels q.patterns
    → map (row_of (column_labels q)) (filter (is_solution G q.patterns) (assignments v q.labels)) ≡ bag.all_rows term_cmp v q.labels (map (rest_of G) q.patterns) (column_labels q)
rows_of_rests v q G below = ap (map (row_of (column_labels q)))
    (filter_agree_on (is_solution G q.patterns) (bag.is_solution term_cmp (map (rest_of G) q.patterns)) (assignments v q.labels)
    (all_weaker (λ a. length a ≡ q.labels) (λ a. is_solution G q.patterns a ≡ bag.is_solution term_cmp (map (rest_of G) q.patterns) a)
    (λ a e. same_solution G q.patterns a (subst (λ n. AreBelow n q.patterns) (sym e) below))
    (assignments v q.labels) (assignment_lengths v q.labels)))
