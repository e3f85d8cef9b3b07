-- The queries and the graph of the test.
use Rattle.std.specs.Prelude.{◌≡◌, ℕ, zero, suc, ◌+◌, ◌<◌, ◌≤◌, ◌&&◌, ◌||◌, Bool, true, false, cond, IsTrue, nat_eq, nat_le, nat_lt, List, [], ◌∷◌, length, refl, Option, None, Some, IfSome, IsSome, is_some}
use Rattle.std.specs.Prelude.{map as each}
use Rattle.std.proofs.Common.{sym, ◌∙◌, ap, subst, arith, inl, inr}
use Rattle.std.proofs.lemmas.Bool.Decides.{nat_tests}
use Rattle.std.proofs.lemmas.Cmp.{nat_cmp_total as total}
use Rattle.std.specs.FinMap as map
use Rattle.std.specs.FinMap.{nat_cmp-IsAntisymmetric as exact}
use Rattle.std.specs.FinSet.{slice_cmp-IsAntisymmetric}
use Rattle.std.specs.List.{AllByRecursion, list_all, list_any}
use Rattle.std.specs.Ordering.{nat_cmp}
use Rattle.hypertrie_model.specs.Sets.{single}
use Rattle.hypertrie_model.specs.SetLaws.{and_both, has-single, tied-is}
use Rattle.rdf_model.specs.Terms.{Term}
use Rattle.trie_depth.specs.declared.id.Id.{Id}
use Rattle.trie_depth.specs.declared.id.Trip.{Trip}
use Rattle.trie_depth.specs.Tuples.{trip_tuple}
use Rattle.term_dict.specs.Dict.{Terms, Interns}
use Rattle.graph_image.specs.Images.{AreKnown}
use Rattle.graph_image.specs.DictLaws.{interns_at, interns_extends}
use Rattle.bag_model.specs.Listings.{Listing, GoesOn}
use Rattle.query_plan.specs.Seen.{column_seen}
use Rattle.query_plan.specs.declared.query.Query.{Query}
use Rattle.query_plan.specs.declared.columns.Column.{Column}
use Rattle.query_plan.specs.declared.patterns.Pattern.{Pattern}
use Rattle.query_plan.specs.Labels.{IsLabelled, column_labels, pattern_labels}
use Rattle.worked_graphs.specs.Tried.{has_each, is_column, are_labels}

-- ---- the query

le_of : (a b : ℕ) → nat_le a b ≡ true → a ≤ b
le_of a b e = grind (arith, nat_tests)

lt_of : (a b : ℕ) → nat_lt a b ≡ true → a < b
lt_of a b e = grind (arith, nat_tests)

each_below : (n : ℕ) (ls : List ℕ) → has_each n ls ≡ true → (l : ℕ) → l < n → list_any (nat_eq l) ls ≡ true
each_below zero ls e l lt = absurd (omega (arith, lt))
each_below (suc m) ls e l lt =
    let two = and_both (list_any (nat_eq m) ls) (has_each m ls) e in
    elim (nat_lt l m) as (λ b. nat_lt l m ≡ b → list_any (nat_eq l) ls ≡ true) [
      | true ↦ λ less. each_below m ls two.1 l (lt_of l m less)
      | false ↦ λ more. let is : l ≡ m = grind (arith, nat_tests) in ap (λ k. list_any (nat_eq k) ls) is ∙ two.0
    ] refl

all_below : (n : ℕ) (ls : List ℕ) → list_all (λ l. nat_lt l n) ls ≡ true → AllByRecursion (λ l. l < n) ls
all_below n [] e = tt
all_below n (l ∷ ls) e = let two = and_both (nat_lt l n) (list_all (λ l. nat_lt l n) ls) e in (lt_of l n two.0, all_below n ls two.1)

column_below : (n : ℕ) (c : Option ℕ) → is_column n c ≡ true → IfSome c (λ l. l < n)
column_below n None e = tt
column_below n (Some l) e = lt_of l n e

pub labelled : (q : Query) (p : Pattern) (c : Column) (ls : List ℕ) → q.patterns ≡ p ∷ [] → q.columns ≡ c ∷ [] → pattern_labels p ≡ ls → IsTrue (are_labels q.labels ls c.label) → IsLabelled q
labelled q p c ls patterns columns is tested =
    let two = and_both (nat_le q.labels 96 && has_each q.labels ls) (list_all (λ l. nat_lt l q.labels) ls && is_column q.labels c.label) tested in
    let few = and_both (nat_le q.labels 96) (has_each q.labels ls) two.0 in
    let below = and_both (list_all (λ l. nat_lt l q.labels) ls) (is_column q.labels c.label) two.1 in
    record {
      few = le_of q.labels 96 few.0;
      each = λ l lt. ap (list_any (λ p. list_any (nat_eq l) (pattern_labels p))) patterns ∙ ap (λ b. b || false) (ap (list_any (nat_eq l)) is ∙ each_below q.labels ls few.1 l lt);
      places = subst (AllByRecursion (λ p. AllByRecursion (λ l. l < q.labels) (pattern_labels p))) (sym patterns) (subst (AllByRecursion (λ l. l < q.labels)) (sym is) (all_below q.labels ls below.0), tt);
      columns = subst (λ cs. AllByRecursion (λ v. IfSome v (λ l. l < q.labels)) (column_labels cs)) (sym columns) (column_below q.labels c.label below.1, tt);
    }

-- ---- the graph

one_more : (b : Bool) (n : ℕ) → cond b n (n + 1) ≤ n + 1
one_more true n = omega arith
one_more false n = omega arith

pub few : (old new : Terms) (t : Term) (id : ℕ) → Interns old new t id → map.len new ≤ map.len old + 1
few old new t id (inl same) = let e = ap map.len same.1 in omega (arith, e)
few old new t id (inr more) =
    let e = ap map.len more.2 ∙ map.len-insert total old id t in
    let le = one_more (map.contains_key old id) (map.len old) in
    omega (arith, e, le)

pub known_single : (terms : Terms) (t : Trip) → IsSome (map.get terms t.0.0) → IsSome (map.get terms t.1.0) → IsSome (map.get terms t.2.0) → AreKnown terms (single nat_cmp (trip_tuple t))
known_single terms t s p o u e = record {
  s = t.0.0;
  p = t.1.0;
  o = t.2.0;
  is = tied-is (slice_cmp-IsAntisymmetric exact) u (trip_tuple t) (sym (has-single total exact (trip_tuple t) u) ∙ e);
  subject = s;
  predicate = p;
  object = o;
}

some_at : (o : Option Term) (t : Term) → o ≡ Some t → IsSome o
some_at o t e = subst IsSome (sym e) refl

-- a triple of two terms that were put in one after the other
pub known_two : (first second third : Terms) (t u : Term) (s p : Id) → Interns first second t s.0 → Interns second third u p.0 → AreKnown third (single nat_cmp (trip_tuple (s, p, s)))
known_two first second third t u s p at_s at_p =
    let subject = some_at (map.get third s.0) t (interns_extends second third u p.0 at_p s.0 t (interns_at first second t s.0 at_s)) in
    known_single third (s, p, s) subject (some_at (map.get third p.0) u (interns_at second third u p.0 at_p)) subject

-- ---- the listing

pub some_columns : (cs : List Column) (ls : List (Option ℕ)) → ls ≡ each (λ c. c.label) (each column_seen cs) → 0 < length cs → 0 < length ls
some_columns [] ls is some = absurd (omega (arith, some))
some_columns (c ∷ cs) ls is some = subst (λ l. 0 < length l) (sym is) (omega arith)

pub given : {A X : Type 0} (result : Option X) (old new : Listing A) → is_some result ≡ true → IfSome result (λ _. GoesOn old new) → IsSome new.present
given None old new e on = absurd (let n : ⊥ = cc in n)
given (Some x) old new e on = subst IsSome (sym on.present) refl
