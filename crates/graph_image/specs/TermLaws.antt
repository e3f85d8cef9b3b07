-- The terms of a graph, and how many they are.
use Rattle.std.specs.Prelude.{◌≡◌, ◌⊎◌, ℕ, ◌+◌, ◌*◌, ◌≤◌, ◌||◌, Bool, true, false, cond, refl, None, Some, is_some, [], unwrap_or}
use Rattle.std.proofs.Common.{sym, ◌∙◌, ap, inl, inr, arith}
use Rattle.std.specs.declared.cmp.Ordering.{Ordering}
use Rattle.std.specs.Cmp.{IsTotalOrder}
use Rattle.std.specs.FinMap as map
use Rattle.std.specs.FinMap.{FinMap, nat_cmp-IsAntisymmetric}
use Rattle.std.specs.Cmp.{nat_cmp_total}
use Rattle.std.specs.FinSet as set
use Rattle.std.specs.FinSet.{FinSet, IsAntisymmetric}
use Rattle.hypertrie_model.specs.SetLaws.{or_cases, or_right}
use Rattle.hypertrie_model.specs.SetInduction.{set_ind, union_empty, union_insert}
use Rattle.hypertrie_model.specs.MapLaws.{map_ind}
use Rattle.hypertrie_model.specs.Folds.{sum_over, marked}
use Rattle.hypertrie_model.specs.FoldLaws.{sum_over-empty, sum_over-insert, marked-empty, marked-insert, get-marked}
use Rattle.hypertrie_model.specs.Members.{AreNames, sum_over-names}
use Rattle.rdf_model.specs.Terms.{Term, Iri, Triple}
use Rattle.rdf_model.specs.Graph.{Graph, term_cmp, terms_total, exact_terms, triples_total, exact_triples}
use Rattle.set_image.specs.Images.{image}
use Rattle.set_image.specs.ImageLaws.{in_image, image_in, image-empty, image-insert}
use Rattle.term_dict.specs.Dict.{Terms, IsOneToOne}
use Rattle.graph_image.specs.Images.{terms_of, HasExactly, term_at}

-- the term is the subject, the predicate or the object
abbrev pub IsTermOf : Term → Triple → Type 0
IsTermOf x t = (x ≡ t.s) ⊎ ((x ≡ t.p) ⊎ (x ≡ t.o))

pub record IsTermIn (x : Term) (G : Graph) : Type 0 where
  pub triple : Triple
  pub there : set.contains G triple ≡ true
  pub is : IsTermOf x triple

pub term_in : (G : Graph) (x : Term) → set.contains (terms_of G) x ≡ true → IsTermIn x G
unfolding terms_of
term_in G x e =
    or_cases (set.contains (image term_cmp (λ t. t.s) G) x) _ (sym (set.contains-union terms_total (image term_cmp (λ t. t.s) G) (set.union (image term_cmp (λ t. t.p) G) (image term_cmp (λ t. t.o) G)) x) ∙ e) (IsTermIn x G)
    (λ a. let v = in_image triples_total exact_triples terms_total exact_terms (λ t. t.s) G x a in record { triple = v.member; there = v.there; is = inl (sym v.is) })
    (λ r. or_cases (set.contains (image term_cmp (λ t. t.p) G) x) _ (sym (set.contains-union terms_total (image term_cmp (λ t. t.p) G) (image term_cmp (λ t. t.o) G) x) ∙ r) (IsTermIn x G)
    (λ a. let v = in_image triples_total exact_triples terms_total exact_terms (λ t. t.p) G x a in record { triple = v.member; there = v.there; is = inr (inl (sym v.is)) })
    (λ a. let v = in_image triples_total exact_triples terms_total exact_terms (λ t. t.o) G x a in record { triple = v.member; there = v.there; is = inr (inr (sym v.is)) }))

or_left : (a b : Bool) → a ≡ true → (a || b) ≡ true
or_left a b e = ap (λ c. c || b) e

module _ (G : Graph) where
  subjects : FinSet term_cmp
  subjects = image term_cmp (λ (t : Triple). t.s) G

  predicates : FinSet term_cmp
  predicates = image term_cmp (λ (t : Triple). t.p) G

  objects : FinSet term_cmp
  objects = image term_cmp (λ (t : Triple). t.o) G

  terms_split : (x : Term) → set.contains (terms_of G) x ≡ (set.contains subjects x || (set.contains predicates x || set.contains objects x))
  unfolding terms_of subjects predicates objects
  terms_split x =
      set.contains-union terms_total (image term_cmp (λ t. t.s) G) (set.union (image term_cmp (λ t. t.p) G) (image term_cmp (λ t. t.o) G)) x
      ∙ ap (λ b. set.contains (image term_cmp (λ t. t.s) G) x || b) (set.contains-union terms_total (image term_cmp (λ t. t.p) G) (image term_cmp (λ t. t.o) G) x)

  pub in_terms : (t : Triple) → set.contains G t ≡ true → (x : Term) → IsTermOf x t → set.contains (terms_of G) x ≡ true
  unfolding subjects predicates objects
  in_terms t e x (inl is) = terms_split x ∙ or_left (set.contains subjects x) _ (ap (set.contains subjects) is ∙ image_in triples_total exact_triples terms_total exact_terms (λ q. q.s) G t e)
  in_terms t e x (inr (inl is)) = terms_split x ∙ or_right (set.contains subjects x) _ (or_left (set.contains predicates x) _ (ap (set.contains predicates) is ∙ image_in triples_total exact_triples terms_total exact_terms (λ q. q.p) G t e))
  in_terms t e x (inr (inr is)) = terms_split x ∙ or_right (set.contains subjects x) _ (or_right (set.contains predicates x) _ (ap (set.contains objects) is ∙ image_in triples_total exact_triples terms_total exact_terms (λ q. q.o) G t e))

-- ---- how many there are

module _ {X Y : Type 0} {Q : X → X → Ordering} {P : Y → Y → Ordering} (o : IsTotalOrder Q) (exact : IsAntisymmetric Q) (op : IsTotalOrder P) (exact_p : IsAntisymmetric P) where
  no_more : (b : Bool) (n m k : ℕ) → m ≡ cond b n (n + 1) → n ≤ k → m ≤ k + 1
  no_more true n m k e le = omega (arith, e)
  no_more false n m k e le = omega (arith, e)

  -- no more values than members
  pub len-image_most : (f : X → Y) (H : FinSet Q) → set.len (image P f H) ≤ set.len H
  len-image_most f = set_ind o exact (λ H. set.len (image P f H) ≤ set.len H)
      (let e = ap set.len (image-empty o exact op exact_p f) ∙ set.len-empty P in omega (arith, e))
      (λ H x new ind.
      let more : set.len (set.insert H x) ≡ set.len H + 1 = set.len-insert o H x ∙ ap (λ b. cond b (set.len H) (set.len H + 1)) new in
      let le = no_more (set.contains (image P f H) (f x)) (set.len (image P f H)) (set.len (image P f (set.insert H x))) (set.len H) (ap set.len (image-insert o exact op exact_p f H x) ∙ set.len-insert op (image P f H) (f x)) ind in
      omega (arith, more, le))

  pub len-union_most : (s t : FinSet Q) → set.len (set.union s t) ≤ set.len s + set.len t
  len-union_most s = set_ind o exact (λ t. set.len (set.union s t) ≤ set.len s + set.len t)
      (let e = ap set.len (union_empty o exact s) in omega (arith, e))
      (λ t k new ind.
      let more : set.len (set.insert t k) ≡ set.len t + 1 = set.len-insert o t k ∙ ap (λ b. cond b (set.len t) (set.len t + 1)) new in
      let le = no_more (set.contains (set.union s t) k) (set.len (set.union s t)) (set.len (set.union s (set.insert t k))) (set.len s + set.len t) (ap set.len (union_insert o exact s t k) ∙ set.len-insert o (set.union s t) k) ind in
      omega (arith, more, le))

-- at most three terms a triple
pub len-terms_of : (G : Graph) → set.len (terms_of G) ≤ 3 * set.len G
unfolding terms_of
len-terms_of G =
    let S = image term_cmp (λ (t : Triple). t.s) G in
    let P = image term_cmp (λ (t : Triple). t.p) G in
    let O = image term_cmp (λ (t : Triple). t.o) G in
    let s = len-image_most triples_total exact_triples terms_total exact_terms (λ t. t.s) G in
    let p = len-image_most triples_total exact_triples terms_total exact_terms (λ t. t.p) G in
    let q = len-image_most triples_total exact_triples terms_total exact_terms (λ t. t.o) G in
    let a = len-union_most terms_total exact_terms terms_total exact_terms S (set.union P O) in
    let b = len-union_most terms_total exact_terms terms_total exact_terms P O in
    omega (arith, s, p, q, a, b)

len-one_each : {K X : Type 0} {R : K → K → Ordering} (o : IsTotalOrder R) (exact : IsAntisymmetric R) (m : FinMap R X) → map.len m ≡ sum_over m (λ _ _. 1)
len-one_each {X = X} {R = R} o exact = map_ind o exact (λ m. map.len m ≡ sum_over m (λ _ _. 1))
    (map.len-empty R X ∙ sym (sum_over-empty o exact (λ _ _. 1)))
    (λ m k v none ind.
    let more : map.len (map.insert m k v) ≡ map.len m + 1 = map.len-insert o m k v ∙ ap (λ b. cond b (map.len m) (map.len m + 1)) (ap is_some none) in
    let sum = sum_over-insert o exact m (λ _ _. 1) k v none in
    omega (arith, more, sum, ind))

pub marked_one_each : {K : Type 0} {R : K → K → Ordering} (o : IsTotalOrder R) (exact : IsAntisymmetric R) (s : FinSet R) → sum_over (marked s) (λ _ _. 1) ≡ set.len s
marked_one_each {R = R} o exact = set_ind o exact (λ s. sum_over (marked s) (λ _ _. 1) ≡ set.len s)
    (ap (λ m. sum_over m (λ _ _. 1)) (marked-empty o exact) ∙ sum_over-empty o exact (λ _ _. 1) ∙ sym (set.len-empty R))
    (λ s k new ind.
    let fresh : map.get (marked s) k ≡ None = get-marked o exact s k ∙ ap (λ b. cond b (Some tt) None) new in
    let sum = ap (λ m. sum_over m (λ _ _. 1)) (marked-insert o exact s k) ∙ sum_over-insert o exact (marked s) (λ _ _. 1) k tt fresh in
    let more : set.len (set.insert s k) ≡ set.len s + 1 = set.len-insert o s k ∙ ap (λ b. cond b (set.len s) (set.len s + 1)) new in
    omega (arith, sum, more, ind))

-- a map whose keys name the members of a set, each one by one key, has as many entries
pub len-names : {K X J : Type 0} {R : K → K → Ordering} {Q : J → J → Ordering} (o : IsTotalOrder R) (exact : IsAntisymmetric R) (p : IsTotalOrder Q) (only : IsAntisymmetric Q) (name : K → J) (m : FinMap R X) (s : FinSet Q)
    → AreNames o exact p only name (λ _ _. 1) (λ _. 1) m s → map.len m ≡ set.len s
len-names o exact p only name m s names = len-one_each o exact m ∙ sum_over-names o exact p only name (λ _ _. 1) (λ _. 1) m s names ∙ marked_one_each p only s

-- a dictionary that has exactly these terms, one to one, has as many
pub len-terms : (terms : Terms) (S : FinSet term_cmp) → IsOneToOne terms → HasExactly terms S → map.len terms ≡ set.len S
len-terms terms S one exactly = len-names nat_cmp_total nat_cmp-IsAntisymmetric terms_total exact_terms (term_at terms) terms S (record {
  into = λ id t e. ap (set.contains S) (at id t e) ∙ exactly.into id t e;
  onto = λ t e. let h = exactly.onto t e in (h.0, t, h.1, at h.0 t h.1);
  apart = λ p q t u e f same. one p q t e (f ∙ ap Some (sym (at q u f) ∙ sym same ∙ at p t e));
  parts = λ id t e. refl;
}) where
  at : (id : ℕ) (t : Term) → map.get terms id ≡ Some t → term_at terms id ≡ t
  at id t e = ap (λ o. unwrap_or o (Iri [])) e
