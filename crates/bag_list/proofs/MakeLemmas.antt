-- What the conditions on a query and its starts say of the search.
use Rattle.std.specs.Prelude.{◌≡◌, ℕ, zero, suc, ◌<◌, ◌^◌, ◌||◌, Bool, true, false, nat_eq, List, [], ◌∷◌, ◌++◌, length, slice_index_or, refl, Option, None, Some, IfSome}
use Rattle.std.proofs.Common.{sym, ◌∙◌, ap, subst, arith}
use Rattle.std.proofs.lemmas.Cmp.{nat_cmp_total}
use Rattle.std.proofs.lemmas.List.Elements.{recursion_from_All}
use Rattle.std.specs.Cmp.Lexicographic.{slice_cmp}
use Rattle.std.specs.FinMap.{nat_cmp-IsAntisymmetric}
use Rattle.std.specs.FinSet as set
use Rattle.std.specs.List.{AllByRecursion, list_any}
use Rattle.std.specs.Ordering.{nat_cmp}
use Rattle.hypertrie_model.specs.IdSets.{IdSet}
use Rattle.hypertrie_model.specs.Sets.{has}
use Rattle.trie_depth.specs.Operands.{IsIdTuple}
use Rattle.query_plan.specs.declared.patterns.Pattern.{Pattern}
use Rattle.query_plan.specs.declared.patterns.Place.{Place}
use Rattle.query_plan.specs.declared.patterns.Place.TheVariants.{Label, Const}
use Rattle.query_plan.specs.Labels.{label_of, pattern_labels}
use Rattle.bag_model.specs.Answers.{IsAnswer, chosen_rows}
use Rattle.bag_model.specs.AnswerLaws.{answer-alike, chosen-alike}
use Rattle.bag_model.specs.Solutions.{HaveLabels, IsUniverse, all_rows}
use Rattle.bag_model.specs.SolutionLaws.{rows_alike, same_element}
use Rattle.bag_list.specs.declared.track.Start.{Start}
use Rattle.bag_list.specs.Labels.{array_labels}
use Rattle.bag_list.specs.Rows.{Row}
use Rattle.bag_list.specs.Search.{ids_below}
use Rattle.bag_list.specs.Starts.{AreStarts, IsStartOf, three_places}
use Rattle.bag_list.specs.Tracks.{IsStart, rests_of, start_set}
use Rattle.bag_list.proofs.ComingLemmas.{all-weaker}
use Rattle.bag_list.proofs.FoundLemmas.{any-ids_below, distinct-ids_below}
use Rattle.bag_list.proofs.Places.{element}

-- an array has the labels that were put into it
three-labels : (s p o : Place) → array_labels (three_places (label_of s ++ (label_of p ++ label_of o))) ≡ label_of s ++ (label_of p ++ label_of o)
three-labels (Label a) (Label b) (Label c) = refl
three-labels (Label a) (Label b) (Const z) = refl
three-labels (Label a) (Const y) (Label c) = refl
three-labels (Label a) (Const y) (Const z) = refl
three-labels (Const x) (Label b) (Label c) = refl
three-labels (Const x) (Label b) (Const z) = refl
three-labels (Const x) (Const y) (Label c) = refl
three-labels (Const x) (Const y) (Const z) = refl

all-place : {X : Type 0} (P : X → Type 0) (xs : List X) (i : ℕ) (d : X) → AllByRecursion P xs → i < length xs → P (slice_index_or xs i d)
all-place P [] i d all lt = absurd (omega (arith, lt))
all-place P (x ∷ xs) zero d all lt = all.0
all-place P (x ∷ xs) (suc i) d all lt = all-place P xs i d all.1 (omega (arith, lt))

module _ {O : Type 0} (depth_of : O → ℕ) (tuples : O → IdSet) where
  start-labels : (s : Start O) (p : Pattern) → IsStartOf depth_of tuples s p → array_labels s.labels ≡ pattern_labels p
  start-labels s p is = ap array_labels is.labels ∙ three-labels p.s p.p p.o

  start-is : (n : ℕ) (s : Start O) (p : Pattern) → AllByRecursion (λ l. l < n) (pattern_labels p) → IsStartOf depth_of tuples s p → IsStart depth_of tuples n s
  start-is n s p below is = record {
    below = subst (AllByRecursion (λ l. l < n)) (sym (start-labels s p is)) below;
    deep = subst (λ m. IfSome s.op (λ o. depth_of o ≡ m)) (ap length (sym (start-labels s p is))) is.deep;
    some = is.some;
  }

  pub starts-are : (n : ℕ) (starts : List (Start O)) (patterns : List Pattern) → AreStarts depth_of tuples starts patterns → AllByRecursion (λ p. AllByRecursion (λ l. l < n) (pattern_labels p)) patterns → (i : ℕ) (s : Start O) → i < length starts → IsStart depth_of tuples n (slice_index_or starts i s)
  starts-are n starts patterns are below i s lt =
      let number = are.number in
      let within : i < length patterns = omega (arith, number, lt) in
      let p = element patterns i within in
      start-is n (slice_index_or starts i s) (slice_index_or patterns i p) (all-place _ patterns i p below within) (are.each i s p within)

  -- the starts have the labels that the patterns have
  any-label : (l : ℕ) (starts : List (Start O)) (patterns : List Pattern) → AreStarts depth_of tuples starts patterns → list_any (λ r. list_any (nat_eq l) r.labels) (rests_of tuples starts) ≡ list_any (λ p. list_any (nat_eq l) (pattern_labels p)) patterns
  any-label l [] [] are = refl
  any-label l [] (p ∷ patterns) are = absurd (let n = are.number in omega (arith, n))
  any-label l (s ∷ starts) [] are = absurd (let n = are.number in omega (arith, n))
  any-label l (s ∷ starts) (p ∷ patterns) are =
      (λ j. list_any (nat_eq l) (start-labels s p (are.each 0 s p (omega arith)) j) || any-label l starts patterns (record {
        number = let n = are.number in omega (arith, n);
        each = λ i t q lt. are.each (suc i) t q (omega (arith, lt));
      }) j)

  pub starts-labelled : (n : ℕ) (starts : List (Start O)) (patterns : List Pattern) → AreStarts depth_of tuples starts patterns → ((l : ℕ) → l < n → list_any (λ p. list_any (nat_eq l) (pattern_labels p)) patterns ≡ true) → HaveLabels nat_cmp n (rests_of tuples starts)
  starts-labelled n starts patterns are each l lt = any-label l starts patterns are ∙ each l lt

-- all ids are a universe
ids-whole : {O : Type 0} (tuples : O → IdSet) (small : (o : O) (t : List ℕ) → has (tuples o) t ≡ true → IsIdTuple t) (starts : List (Start O)) → IsUniverse nat_cmp (ids_below (2 ^ 32)) (rests_of tuples starts)
ids-whole tuples small starts = record { distinct = distinct-ids_below (2 ^ 32); whole = each starts } where
  of-start : (o : Option _) (t : List ℕ) → has (start_set tuples o) t ≡ true → AllByRecursion (λ x. list_any (same_element nat_cmp x) (ids_below (2 ^ 32)) ≡ true) t
  of-start None t e = absurd (let f : false ≡ true = sym (set.contains-empty (slice_cmp nat_cmp) t) ∙ e in let g : ⊥ = cc in g)
  of-start (Some o) t e = all-weaker (λ x. x < 2 ^ 32) _ t (λ x lt. any-ids_below (2 ^ 32) x lt) (recursion_from_All (λ x. x < 2 ^ 32) t (small o t e))

  each : (ss : List (Start _)) → AllByRecursion (λ r. (t : List ℕ) → has r.tuples t ≡ true → AllByRecursion (λ x. list_any (same_element nat_cmp x) (ids_below (2 ^ 32)) ≡ true) t) (rests_of tuples ss)
  each [] = tt
  each (s ∷ ss) = (of-start s.op, each ss)

-- an answer over all ids is one over any universe
pub answers-anywhere : {O : Type 0} (tuples : O → IdSet) (small : (o : O) (t : List ℕ) → has (tuples o) t ≡ true → IsIdTuple t) (starts : List (Start O)) (n : ℕ) (columns : List (Option ℕ)) (distinct : Bool) (limit : Option ℕ) (offset : ℕ) (u : List ℕ) (rows : List Row) → HaveLabels nat_cmp n (rests_of tuples starts) → IsUniverse nat_cmp u (rests_of tuples starts) → IsAnswer limit offset (chosen_rows nat_cmp distinct (all_rows nat_cmp (ids_below (2 ^ 32)) n (rests_of tuples starts) columns)) rows → IsAnswer limit offset (chosen_rows nat_cmp distinct (all_rows nat_cmp u n (rests_of tuples starts) columns)) rows
answers-anywhere tuples small starts n columns distinct limit offset u rows have universe a =
    answer-alike limit offset _ _ rows
    (chosen-alike nat_cmp_total nat_cmp-IsAntisymmetric distinct _ _ (rows_alike nat_cmp_total nat_cmp-IsAntisymmetric u (ids_below (2 ^ 32)) n (rests_of tuples starts) columns universe (ids-whole tuples small starts) have)) a
