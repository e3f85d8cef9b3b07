-- The graph of a set of triples of Ids: its triples, its size, and the graphs of sets that are made of others.
use Rattle.std.specs.Prelude.{◌≡◌, ℕ, not, true, List, [], ◌∷◌, refl, Option, None, Some, IsSome, unwrap_or}
use Rattle.std.proofs.Common.{sym, ◌∙◌, ap, subst}
use Rattle.std.proofs.lemmas.Cmp.{lists_total}
use Rattle.std.specs.Ordering.{eq_by_cmp, nat_cmp}
use Rattle.std.specs.Cmp.{nat_cmp_total as total, IsTotalOrder}
use Rattle.std.specs.Cmp.Lexicographic.{slice_cmp}
use Rattle.std.specs.FinMap as map
use Rattle.std.specs.FinMap.{nat_cmp-IsAntisymmetric as exact}
use Rattle.std.specs.FinSet.{IsAntisymmetric, slice_cmp-IsAntisymmetric}
use Rattle.std.specs.FinSet as set
use Rattle.hypertrie_model.specs.IdSets.{IdSet}
use Rattle.hypertrie_model.specs.Sets.{has}
use Rattle.hypertrie_model.specs.SetLaws.{or_cases, and_both, tied-is}
use Rattle.rdf_model.specs.Terms.{Term, Iri, Triple}
use Rattle.rdf_model.specs.Graph.{triples_total, exact_triples}
use Rattle.set_image.specs.Images.{IsAloneIn, IsOneToOneOn}
use Rattle.set_image.specs.ImageLaws.{IsValue, in_image, image_in, image-empty, image-insert, image-union}
use Rattle.set_image.specs.OneToOneLaws.{contains-image, image-difference, len-image}
use Rattle.term_dict.specs.Dict.{Terms, IsOneToOne}
use Rattle.graph_image.specs.Images.{term_at, triple_at, graph_of, IsKnown, AreKnown}

pub tuples_total : IsTotalOrder (slice_cmp nat_cmp)
tuples_total = lists_total total

pub tuples_exact : IsAntisymmetric (slice_cmp nat_cmp)
tuples_exact = slice_cmp-IsAntisymmetric exact

some_is : (o : Option Term) → IsSome o → o ≡ Some (unwrap_or o (Iri []))
some_is None h = absurd (let f : ⊥ = cc in f)
some_is (Some t) h = refl

-- an Id of the dictionary has its term
pub get_is : (terms : Terms) (id : ℕ) → IsSome (map.get terms id) → map.get terms id ≡ Some (term_at terms id)
get_is terms id h = some_is (map.get terms id) h

pub term_is : (terms : Terms) (id : ℕ) (t : Term) → map.get terms id ≡ Some t → term_at terms id ≡ t
term_is terms id t e = ap (λ o. unwrap_or o (Iri [])) e

-- ---- known sets

pub known_union : (terms : Terms) (H K : IdSet) → AreKnown terms H → AreKnown terms K → AreKnown terms (set.union H K)
known_union terms H K h k t e = or_cases (has H t) (has K t) (sym (set.contains-union tuples_total H K t) ∙ e) (IsKnown terms t) (h t) (k t)

pub known_within : (terms : Terms) (H K : IdSet) → ((t : List ℕ) → has K t ≡ true → has H t ≡ true) → AreKnown terms H → AreKnown terms K
known_within terms H K within h t e = h t (within t e)

pub known_difference : (terms : Terms) (H K : IdSet) → AreKnown terms H → AreKnown terms (set.difference H K)
known_difference terms H K h t e = h t (and_both (has H t) (not (has K t)) (sym (set.contains-difference tuples_total H K t) ∙ e)).0

pub known_insert : (terms : Terms) (H : IdSet) (u : List ℕ) → AreKnown terms H → IsKnown terms u → AreKnown terms (set.insert H u)
known_insert terms H u h k t e = or_cases (eq_by_cmp (slice_cmp nat_cmp) t u) (has H t) (sym (set.contains-insert tuples_total H u t) ∙ e) (IsKnown terms t)
    (λ here. subst (IsKnown terms) (sym (tied-is tuples_exact t u here)) k)
    (h t)

-- ---- the graph, whatever the dictionary

module _ (terms : Terms) where
  pub graph_of-empty : graph_of terms set.empty ≡ set.empty
  graph_of-empty = image-empty tuples_total tuples_exact triples_total exact_triples (triple_at terms)

  pub graph_of-insert : (H : IdSet) (t : List ℕ) → graph_of terms (set.insert H t) ≡ set.insert (graph_of terms H) (triple_at terms t)
  graph_of-insert H t = image-insert tuples_total tuples_exact triples_total exact_triples (triple_at terms) H t

  pub graph_of-union : (H K : IdSet) → graph_of terms (set.union H K) ≡ set.union (graph_of terms H) (graph_of terms K)
  graph_of-union H K = image-union tuples_total tuples_exact triples_total exact_triples (triple_at terms) H K

  -- each triple is that of a tuple
  abbrev pub IsRead : IdSet → Triple → Type 0
  IsRead H t = IsValue tuples_total tuples_exact triples_total exact_triples (triple_at terms) H t

  pub in_graph : (H : IdSet) (t : Triple) → set.contains (graph_of terms H) t ≡ true → IsRead H t
  in_graph H t e = in_image tuples_total tuples_exact triples_total exact_triples (triple_at terms) H t e

  pub graph_in : (H : IdSet) (u : List ℕ) → has H u ≡ true → set.contains (graph_of terms H) (triple_at terms u) ≡ true
  graph_in H u e = image_in tuples_total tuples_exact triples_total exact_triples (triple_at terms) H u e

-- ---- read one to one

module _ (terms : Terms) (one : IsOneToOne terms) where
  same_id : (p q : ℕ) → IsSome (map.get terms p) → IsSome (map.get terms q) → term_at terms p ≡ term_at terms q → p ≡ q
  same_id p q at_p at_q same = one p q (term_at terms p) (get_is terms p at_p) (get_is terms q at_q ∙ ap Some (sym same))

  -- known tuples with one triple are one tuple
  pub same_tuple : (t u : List ℕ) → IsKnown terms t → IsKnown terms u → triple_at terms t ≡ triple_at terms u → t ≡ u
  same_tuple t u k l same =
      let triples : triple_at terms (k.s ∷ k.p ∷ k.o ∷ []) ≡ triple_at terms (l.s ∷ l.p ∷ l.o ∷ []) = ap (triple_at terms) (sym k.is) ∙ same ∙ ap (triple_at terms) l.is in
      let s = same_id k.s l.s k.subject l.subject (ap (λ (x : Triple). x.s) triples) in
      let p = same_id k.p l.p k.predicate l.predicate (ap (λ (x : Triple). x.p) triples) in
      let o = same_id k.o l.o k.object l.object (ap (λ (x : Triple). x.o) triples) in
      k.is ∙ (λ i. s i ∷ p i ∷ o i ∷ []) ∙ sym l.is

  pub alone : (H : IdSet) → AreKnown terms H → (u : List ℕ) → IsKnown terms u → IsAloneIn (triple_at terms) H u
  alone H known u k t there same = same_tuple t u (known t there) k same

  pub one_to_one : (H : IdSet) → AreKnown terms H → IsOneToOneOn (triple_at terms) H
  one_to_one H known u there = alone H known u (known u there)

  -- the graph has the triple of a known tuple exactly where the set has the tuple
  pub contains-graph_of : (H : IdSet) → AreKnown terms H → (u : List ℕ) → IsKnown terms u → set.contains (graph_of terms H) (triple_at terms u) ≡ has H u
  contains-graph_of H known u k = contains-image tuples_total tuples_exact triples_total exact_triples (triple_at terms) H u (alone H known u k)

  pub graph_of-difference : (H K : IdSet) → AreKnown terms H → AreKnown terms K → graph_of terms (set.difference H K) ≡ set.difference (graph_of terms H) (graph_of terms K)
  graph_of-difference H K h k = image-difference tuples_total tuples_exact triples_total exact_triples (triple_at terms) H K (one_to_one (set.union H K) (known_union terms H K h k))

  -- as many triples as tuples
  pub len-graph_of : (H : IdSet) → AreKnown terms H → set.len (graph_of terms H) ≡ set.len H
  len-graph_of H known = len-image tuples_total tuples_exact triples_total exact_triples (triple_at terms) H (one_to_one H known)
