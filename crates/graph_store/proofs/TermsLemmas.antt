-- The terms of a graph with one triple more, and those that a dictionary lacks.
use Rattle.std.proofs.Common.{◌≡◌, ◌∙◌, ◌+◌, ◌≤◌, ◌||◌, Bool, true, false, cond, Some, is_some, refl, sym, ap, subst, inl, inr, arith, ◌∷◌, []}
use Rattle.std.proofs.lemmas.Bool.{false_from_ne_true}
use Rattle.std.specs.Ordering.{eq_by_cmp}
use Rattle.std.specs.FinSet as set
use Rattle.hypertrie_model.specs.IdSets.{IdSet}
use Rattle.hypertrie_model.specs.Sets.{has}
use Rattle.hypertrie_model.specs.SetLaws.{or_cases, or_right, same_test, tied-is, tied-itself}
use Rattle.hypertrie_model.specs.MapLaws.{by_key}
use Rattle.rdf_model.specs.Terms.{Term, Triple}
use Rattle.rdf_model.specs.Graph.{Graph, term_cmp, triple_cmp, terms_total, exact_terms, triples_total, exact_triples}
use Rattle.term_dict.specs.Dict.{Terms, IsOneToOne}
use Rattle.trie_depth.specs.declared.id.Trip.{Trip}
use Rattle.trie_depth.specs.Tuples.{trip_tuple}
use Rattle.graph_image.specs.Images.{triple_at, graph_of, IsKnown, AreKnown, terms_of}
use Rattle.graph_image.specs.TermLaws.{IsTermOf, term_in, in_terms, len-union_most}
use Rattle.graph_image.specs.ImageLaws.{get_is, term_is, in_graph, contains-graph_of}
use Rattle.graph_store.specs.Noted.{HasIds, HasNewTerm, with_terms}

or_left : (a b : Bool) → a ≡ true → (a || b) ≡ true
or_left a b e = ap (λ c. c || b) e

module _ (G : Graph) (t : Triple) where
  here : set.contains (set.insert G t) t ≡ true
  here = set.contains-insert triples_total G t t ∙ or_left (eq_by_cmp triple_cmp t t) (set.contains G t) (tied-itself triples_total t)

  later : (q : Triple) → set.contains G q ≡ true → set.contains (set.insert G t) q ≡ true
  later q e = set.contains-insert triples_total G t q ∙ or_right (eq_by_cmp triple_cmp q t) (set.contains G q) e

  in_with : (x : Term) → set.contains (with_terms (terms_of G) t) x ≡ (eq_by_cmp term_cmp x t.o || (eq_by_cmp term_cmp x t.p || (eq_by_cmp term_cmp x t.s || set.contains (terms_of G) x)))
  in_with x =
      set.contains-insert terms_total (set.insert (set.insert (terms_of G) t.s) t.p) t.o x
      ∙ ap (λ b. eq_by_cmp term_cmp x t.o || b) (set.contains-insert terms_total (set.insert (terms_of G) t.s) t.p x)
      ∙ ap (λ b. eq_by_cmp term_cmp x t.o || (eq_by_cmp term_cmp x t.p || b)) (set.contains-insert terms_total (terms_of G) t.s x)

  tied : (x y : Term) → x ≡ y → eq_by_cmp term_cmp x y ≡ true
  tied x y is = ap (λ z. eq_by_cmp term_cmp z y) is ∙ tied-itself terms_total y

  of_it : (x : Term) → IsTermOf x t → set.contains (with_terms (terms_of G) t) x ≡ true
  of_it x (inl is) = in_with x ∙ or_right (eq_by_cmp term_cmp x t.o) _ (or_right (eq_by_cmp term_cmp x t.p) _ (or_left (eq_by_cmp term_cmp x t.s) _ (tied x t.s is)))
  of_it x (inr (inl is)) = in_with x ∙ or_right (eq_by_cmp term_cmp x t.o) _ (or_left (eq_by_cmp term_cmp x t.p) _ (tied x t.p is))
  of_it x (inr (inr is)) = in_with x ∙ or_left (eq_by_cmp term_cmp x t.o) _ (tied x t.o is)

  into : (x : Term) → set.contains (terms_of (set.insert G t)) x ≡ true → set.contains (with_terms (terms_of G) t) x ≡ true
  into x e =
      let at = term_in (set.insert G t) x e in
      or_cases (eq_by_cmp triple_cmp at.triple t) (set.contains G at.triple) (sym (set.contains-insert triples_total G t at.triple) ∙ at.there) _
      (λ same. of_it x (subst (IsTermOf x) (tied-is exact_triples at.triple t same) at.is))
      (λ old. in_with x ∙ or_right (eq_by_cmp term_cmp x t.o) _ (or_right (eq_by_cmp term_cmp x t.p) _ (or_right (eq_by_cmp term_cmp x t.s) _ (in_terms G at.triple old x at.is))))

  back : (x : Term) → set.contains (with_terms (terms_of G) t) x ≡ true → set.contains (terms_of (set.insert G t)) x ≡ true
  back x e =
      or_cases (eq_by_cmp term_cmp x t.o) _ (sym (in_with x) ∙ e) _
      (λ a. in_terms (set.insert G t) t here x (inr (inr (tied-is exact_terms x t.o a))))
      (λ r. or_cases (eq_by_cmp term_cmp x t.p) _ r _
      (λ a. in_terms (set.insert G t) t here x (inr (inl (tied-is exact_terms x t.p a))))
      (λ q. or_cases (eq_by_cmp term_cmp x t.s) _ q _
      (λ a. in_terms (set.insert G t) t here x (inl (tied-is exact_terms x t.s a)))
      (λ old. let at = term_in G x old in in_terms (set.insert G t) at.triple (later at.triple at.there) x at.is)))

  -- one triple more brings its three terms
  pub terms_of-insert : terms_of (set.insert G t) ≡ with_terms (terms_of G) t
  terms_of-insert = set.same_set terms_total exact_terms _ _ (λ x. same_test _ _ (into x) (back x))

  pub insert_member : set.contains G t ≡ true → set.insert G t ≡ G
  insert_member e = set.same_set triples_total exact_triples _ _ (λ q. set.contains-insert triples_total G t q
      ∙ by_key triples_total exact_triples (λ b. (b || set.contains G q) ≡ set.contains G q) q t (λ is. sym (ap (set.contains G) is ∙ e)) (λ _. refl))

  pub len-insert_most : set.len (set.insert G t) ≤ set.len G + 1
  len-insert_most = by (set.contains G t) (set.len-insert triples_total G t) where
    by : (b : Bool) → set.len (set.insert G t) ≡ cond b (set.len G) (set.len G + 1) → set.len (set.insert G t) ≤ set.len G + 1
    by true e = omega (arith, e)
    by false e = omega (arith, e)

pub len-graphs_most : (G H : Graph) → set.len (set.union G H) ≤ set.len G + set.len H
len-graphs_most G H = len-union_most triples_total exact_triples triples_total exact_triples G H

-- ---- the Ids of a triple

module _ (terms : Terms) (t : Triple) (trip : Trip) (ids : HasIds terms t trip) where
  pub triple_is : triple_at terms (trip_tuple trip) ≡ t
  triple_is i = record { s = term_is terms trip.0.0 t.s ids.s i; p = term_is terms trip.1.0 t.p ids.p i; o = term_is terms trip.2.0 t.o ids.o i }

  pub trip_known : IsKnown terms (trip_tuple trip)
  trip_known = record {
    s = trip.0.0;
    p = trip.1.0;
    o = trip.2.0;
    is = refl;
    subject = ap is_some ids.s;
    predicate = ap is_some ids.p;
    object = ap is_some ids.o;
  }

  -- the graph has the triple exactly where the set has the Ids
  pub found_triple : IsOneToOne terms → (H : IdSet) → AreKnown terms H → has H (trip_tuple trip) ≡ set.contains (graph_of terms H) t
  found_triple one H known = sym (contains-graph_of terms one H known (trip_tuple trip) trip_known) ∙ ap (set.contains (graph_of terms H)) triple_is

-- a triple with a term that the dictionary lacks is in no graph that it reads
pub not_in_graph : (terms : Terms) (H : IdSet) → AreKnown terms H → (t : Triple) → HasNewTerm terms t → set.contains (graph_of terms H) t ≡ false
not_in_graph terms H known t lacks = false_from_ne_true _ (λ e.
    let v = in_graph terms H t e in
    let k = known v.member v.there in
    let is : triple_at terms (k.s ∷ k.p ∷ k.o ∷ []) ≡ t = ap (triple_at terms) (sym k.is) ∙ v.is in
    elim lacks [
      | inl new ↦ new k.s (get_is terms k.s k.subject ∙ ap (λ (q : Triple). Some q.s) is)
      | inr (inl new) ↦ new k.p (get_is terms k.p k.predicate ∙ ap (λ (q : Triple). Some q.p) is)
      | inr (inr new) ↦ new k.o (get_is terms k.o k.object ∙ ap (λ (q : Triple). Some q.o) is)
    ])
