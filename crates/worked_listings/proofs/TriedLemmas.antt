-- Queries that are tried meet the conditions of a listing.
use Rattle.std.specs.Prelude.{◌≡◌, ◌≢◌, ℕ, zero, suc, ◌+◌, ◌<◌, ◌≤◌, ◌&&◌, Bool, true, false, nat_eq, nat_le, nat_lt, List, [], ◌∷◌, length, map, slice_index_or, refl, Option, None, Some, IfSome}
use Rattle.std.proofs.Common.{sym, ◌∙◌, ap, subst, arith}
use Rattle.std.proofs.lemmas.Bool.Decides.{nat_tests}
use Rattle.std.proofs.lemmas.Cmp.{nat_cmp_total, lists_total}
use Rattle.std.specs.Cmp.Lexicographic.{slice_cmp}
use Rattle.std.specs.FinSet as set
use Rattle.std.specs.List.{AllByRecursion, list_all, list_any}
use Rattle.std.specs.Ordering.{nat_cmp, eq_by_cmp}
use native.Mathlib.Decide.{dec_lt}
use Rattle.hypertrie_model.specs.IdSets.{IdSet}
use Rattle.hypertrie_model.specs.Sets.{empty}
use Rattle.hypertrie_model.specs.SetLaws.{and_both, tied-itself}
use Rattle.trie_depth.specs.declared.id.Trip.{Trip}
use Rattle.trie_depth.specs.Tuples.{trip_tuple}
use Rattle.key_join.specs.Lists.{triples}
use Rattle.query_plan.specs.declared.patterns.Pattern.{Pattern}
use Rattle.query_plan.specs.declared.query.Query.{Query}
use Rattle.query_plan.specs.Labels.{IsLabelled, column_labels, pattern_labels}
use Rattle.bag_list.specs.declared.track.Start.{Start}
use Rattle.bag_list.specs.Starts.{AreStarts, IsStartOf}
use Rattle.worked_listings.specs.Tried.{are_labels, has_each, is_column, pattern_of, start_of, three}

pub trial-starts : {O : Type 0} (depth_of : O → ℕ) (tuples : O → IdSet) (o : O) (ts : List (ℕ × ℕ × ℕ)) → depth_of o ≡ 3 → tuples o ≢ empty nat_cmp → AreStarts depth_of tuples (map (start_of o) ts) (map pattern_of ts)
trial-starts depth_of tuples o ts deep some = record { number = same ts; each = each ts } where
  same : (ts : List (ℕ × ℕ × ℕ)) → length (map (start_of o) ts) ≡ length (map pattern_of ts)
  same [] = refl
  same (t ∷ ts) = ap suc (same ts)

  each : (ts : List (ℕ × ℕ × ℕ)) (i : ℕ) (s : Start _) (p : Pattern) → i < length (map pattern_of ts) → IsStartOf depth_of tuples (slice_index_or (map (start_of o) ts) i s) (slice_index_or (map pattern_of ts) i p)
  each [] i s p lt = absurd (omega (arith, lt))
  each (t ∷ ts) zero s p lt = record { labels = refl; deep = deep; some = some }
  each (t ∷ ts) (suc i) s p lt = each ts i s p (omega (arith, lt))

pub triples-some : (es : List Trip) → 0 < length es → set.from_list {R = slice_cmp nat_cmp} (triples es) ≡ empty nat_cmp → ⊥
triples-some [] lt e = omega (arith, lt)
triples-some (x ∷ es) lt e =
    let t : false ≡ true =
    sym (set.contains-empty (slice_cmp nat_cmp) (trip_tuple x))
    ∙ ap (λ s. set.contains s (trip_tuple x)) (sym e)
    ∙ set.contains-from_list (lists_total nat_cmp_total) (triples (x ∷ es)) (trip_tuple x)
    ∙ ap (λ b. Rattle.std.specs.Prelude.◌||◌ b (list_any (eq_by_cmp (slice_cmp nat_cmp) (trip_tuple x)) (triples es))) (tied-itself (lists_total nat_cmp_total) (trip_tuple x)) in
    cc

pub trial-labelled : (q : Query) (ts : List (ℕ × ℕ × ℕ)) (columns : List (Option ℕ)) → q.patterns ≡ map pattern_of ts → column_labels q.columns ≡ columns → are_labels q.labels ts columns ≡ true → IsLabelled q
trial-labelled q ts columns patterns labels good =
    let two = and_both (nat_le q.labels 96 && has_each q.labels ts) (list_all (λ t. list_all (λ l. nat_lt l q.labels) (three t)) ts && list_all (is_column q.labels) columns) good in
    let front = and_both (nat_le q.labels 96) (has_each q.labels ts) two.0 in
    let behind = and_both (list_all (λ t. list_all (λ l. nat_lt l q.labels) (three t)) ts) (list_all (is_column q.labels) columns) two.1 in
    let few = front.0 in
    record {
      few = grind (arith, nat_tests);
      each = λ l lt. ap (list_any (λ p. list_any (nat_eq l) (pattern_labels p))) patterns ∙ mapped l ts ∙ had q.labels ts front.1 l lt;
      places = subst (AllByRecursion (λ p. AllByRecursion (λ l. l < q.labels) (pattern_labels p))) (sym patterns) (below q.labels ts behind.0);
      columns = subst (AllByRecursion (λ v. IfSome v (λ l. l < q.labels))) (sym labels) (columns-below q.labels columns behind.1);
    } where
      mapped : (l : ℕ) (ts : List (ℕ × ℕ × ℕ)) → list_any (λ p. list_any (nat_eq l) (pattern_labels p)) (map pattern_of ts) ≡ list_any (λ t. list_any (nat_eq l) (three t)) ts
      mapped l [] = refl
      mapped l (t ∷ ts) = ap (λ b. Rattle.std.specs.Prelude.◌||◌ (list_any (nat_eq l) (three t)) b) (mapped l ts)

      had : (n : ℕ) (ts : List (ℕ × ℕ × ℕ)) → has_each n ts ≡ true → (l : ℕ) → l < n → list_any (λ t. list_any (nat_eq l) (three t)) ts ≡ true
      had zero ts e l lt = absurd (omega (arith, lt))
      had (suc n) ts e l lt =
          let both = and_both (list_any (λ t. list_any (nat_eq n) (three t)) ts) (has_each n ts) e in
          elim (dec_lt l n) as (λ _. list_any (λ t. list_any (nat_eq l) (three t)) ts ≡ true) [
            | yes low ↦ had n ts both.1 l low
            | no high ↦ let is : l ≡ n = omega (arith, lt, high) in ap (λ m. list_any (λ t. list_any (nat_eq m) (three t)) ts) is ∙ both.0
          ]

      numbers-below : (n : ℕ) (ls : List ℕ) → list_all (λ l. nat_lt l n) ls ≡ true → AllByRecursion (λ l. l < n) ls
      numbers-below n [] e = tt
      numbers-below n (l ∷ ls) e = let both = and_both (nat_lt l n) (list_all (λ l. nat_lt l n) ls) e in ((let b = both.0 in let z : l < n = grind (arith, nat_tests) in z), numbers-below n ls both.1)

      below : (n : ℕ) (ts : List (ℕ × ℕ × ℕ)) → list_all (λ t. list_all (λ l. nat_lt l n) (three t)) ts ≡ true → AllByRecursion (λ p. AllByRecursion (λ l. l < n) (pattern_labels p)) (map pattern_of ts)
      below n [] e = tt
      below n (t ∷ ts) e = let both = and_both (list_all (λ l. nat_lt l n) (three t)) (list_all (λ t. list_all (λ l. nat_lt l n) (three t)) ts) e in (numbers-below n (three t) both.0, below n ts both.1)

      column-below : (n : ℕ) (v : Option ℕ) → is_column n v ≡ true → IfSome v (λ l. l < n)
      column-below n None e = tt
      column-below n (Some l) e = grind (arith, nat_tests)

      columns-below : (n : ℕ) (vs : List (Option ℕ)) → list_all (is_column n) vs ≡ true → AllByRecursion (λ v. IfSome v (λ l. l < n)) vs
      columns-below n [] e = tt
      columns-below n (v ∷ vs) e = let both = and_both (is_column n v) (list_all (is_column n) vs) e in (column-below n v both.0, columns-below n vs both.1)

pub trial-starts-equal : {O : Type 0} (depth_of : O → ℕ) (tuples : O → IdSet) (o : O) (ts : List (ℕ × ℕ × ℕ)) (starts : List (Start O)) (patterns : List Pattern) → starts ≡ map (start_of o) ts → patterns ≡ map pattern_of ts → depth_of o ≡ 3 → tuples o ≢ empty nat_cmp → AreStarts depth_of tuples starts patterns
trial-starts-equal depth_of tuples o ts starts patterns s p deep some =
    subst (λ xs. AreStarts depth_of tuples xs patterns) (sym s) (subst (AreStarts depth_of tuples (map (start_of o) ts)) (sym p) (trial-starts depth_of tuples o ts deep some))
