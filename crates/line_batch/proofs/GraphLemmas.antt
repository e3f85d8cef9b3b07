-- A graph and the triples of a list: those that it lacks, and those that it has.
use Rattle.std.proofs.Common.{◌≡◌, ◌∙◌, ◌+◌, ◌&&◌, ◌||◌, not, Bool, true, false, cond, List, [], ◌∷◌, ◌++◌, refl, sym, ap}
use Rattle.std.specs.Ordering.{eq_by_cmp}
use Rattle.std.specs.FinSet as set
use Rattle.hypertrie_model.specs.MapLaws.{by_key}
use Rattle.hypertrie_model.specs.SetInduction.{len-union_disjoint}
use Rattle.rdf_model.specs.Terms.{Triple}
use Rattle.rdf_model.specs.Graph.{Graph, triple_cmp, triples_total, exact_triples, with_all, without_all}

-- the triples of a list that a graph lacks, and those that it has
abbrev pub lacked : Graph → List Triple → Graph
lacked G B = set.difference (set.from_list B) G

abbrev pub had : Graph → List Triple → Graph
had G B = set.intersection (set.from_list B) G

same_graph : (G H : Graph) → ((q : Triple) → set.contains G q ≡ set.contains H q) → G ≡ H
same_graph G H h = set.same_set triples_total exact_triples G H h

pub lacked-none : (G : Graph) → lacked G [] ≡ set.empty
lacked-none G = same_graph (lacked G []) set.empty (λ q. set.contains-difference triples_total set.empty G q ∙ ap (λ b. b && not (set.contains G q)) (set.contains-empty triple_cmp q) ∙ sym (set.contains-empty triple_cmp q))

pub had-none : (G : Graph) → had G [] ≡ set.empty
had-none G = same_graph (had G []) set.empty (λ q. set.contains-intersection triples_total set.empty G q ∙ ap (λ b. b && set.contains G q) (set.contains-empty triple_cmp q) ∙ sym (set.contains-empty triple_cmp q))

-- one triple more at the end of the list
pub lacked-push : (G : Graph) (B : List Triple) (t : Triple) → lacked G (B ++ t ∷ []) ≡ cond (set.contains G t) (lacked G B) (set.insert (lacked G B) t)
lacked-push G B t = ap (λ S. set.difference S G) (set.from_list_push triples_total exact_triples B t) ∙ by (set.contains G t) refl where
  S : Graph
  S = set.from_list B

  inside : (q : Triple) → set.contains (set.difference (set.insert S t) G) q ≡ ((eq_by_cmp triple_cmp q t || set.contains S q) && not (set.contains G q))
  inside q = set.contains-difference triples_total (set.insert S t) G q ∙ ap (λ b. b && not (set.contains G q)) (set.contains-insert triples_total S t q)

  and_none : (b : Bool) → (b && false) ≡ false
  and_none true = refl
  and_none false = refl

  by : (b : Bool) → set.contains G t ≡ b → set.difference (set.insert S t) G ≡ cond b (set.difference S G) (set.insert (set.difference S G) t)
  by true e = same_graph _ _ (λ q. inside q
      ∙ by_key triples_total exact_triples (λ b. ((b || set.contains S q) && not (set.contains G q)) ≡ (set.contains S q && not (set.contains G q))) q t
      (λ is. let there : set.contains G q ≡ true = ap (set.contains G) is ∙ e in ap not there ∙ sym (ap (λ g. set.contains S q && not g) there ∙ and_none (set.contains S q)))
      (λ _. refl)
      ∙ sym (set.contains-difference triples_total S G q))
  by false e = same_graph _ _ (λ q. inside q
      ∙ by_key triples_total exact_triples (λ b. ((b || set.contains S q) && not (set.contains G q)) ≡ (b || (set.contains S q && not (set.contains G q)))) q t
      (λ is. ap (λ z. not (set.contains G z)) is ∙ ap not e)
      (λ _. refl)
      ∙ sym (set.contains-insert triples_total (set.difference S G) t q ∙ ap (λ b. eq_by_cmp triple_cmp q t || b) (set.contains-difference triples_total S G q)))

pub had-push : (G : Graph) (B : List Triple) (t : Triple) → had G (B ++ t ∷ []) ≡ cond (set.contains G t) (set.insert (had G B) t) (had G B)
had-push G B t = ap (λ S. set.intersection S G) (set.from_list_push triples_total exact_triples B t) ∙ by (set.contains G t) refl where
  S : Graph
  S = set.from_list B

  inside : (q : Triple) → set.contains (set.intersection (set.insert S t) G) q ≡ ((eq_by_cmp triple_cmp q t || set.contains S q) && set.contains G q)
  inside q = set.contains-intersection triples_total (set.insert S t) G q ∙ ap (λ b. b && set.contains G q) (set.contains-insert triples_total S t q)

  and_none : (b : Bool) → (b && false) ≡ false
  and_none true = refl
  and_none false = refl

  by : (b : Bool) → set.contains G t ≡ b → set.intersection (set.insert S t) G ≡ cond b (set.insert (set.intersection S G) t) (set.intersection S G)
  by true e = same_graph _ _ (λ q. inside q
      ∙ by_key triples_total exact_triples (λ b. ((b || set.contains S q) && set.contains G q) ≡ (b || (set.contains S q && set.contains G q))) q t
      (λ is. ap (set.contains G) is ∙ e)
      (λ _. refl)
      ∙ sym (set.contains-insert triples_total (set.intersection S G) t q ∙ ap (λ b. eq_by_cmp triple_cmp q t || b) (set.contains-intersection triples_total S G q)))
  by false e = same_graph _ _ (λ q. inside q
      ∙ by_key triples_total exact_triples (λ b. ((b || set.contains S q) && set.contains G q) ≡ (set.contains S q && set.contains G q)) q t
      (λ is. let not_there : set.contains G q ≡ false = ap (set.contains G) is ∙ e in not_there ∙ sym (ap (λ g. set.contains S q && g) not_there ∙ and_none (set.contains S q)))
      (λ _. refl)
      ∙ sym (set.contains-intersection triples_total S G q))

-- putting in what a graph lacks of a list is putting in the list
pub union-lacked : (G : Graph) (B : List Triple) → set.union G (lacked G B) ≡ with_all G B
union-lacked G B = same_graph _ _ (λ q. set.contains-union triples_total G (lacked G B) q ∙ ap (λ b. set.contains G q || b) (set.contains-difference triples_total (set.from_list B) G q) ∙ by (set.contains G q) (set.contains (set.from_list B) q)
    ∙ sym (set.contains-union triples_total G (set.from_list B) q)) where
      by : (g b : Bool) → (g || (b && not g)) ≡ (g || b)
      by true b = refl
      by false true = refl
      by false false = refl

-- and taking out what it has of a list is taking out the list
pub difference-had : (G : Graph) (B : List Triple) → set.difference G (had G B) ≡ without_all G B
difference-had G B = same_graph _ _ (λ q. set.contains-difference triples_total G (had G B) q ∙ ap (λ b. set.contains G q && not b) (set.contains-intersection triples_total (set.from_list B) G q) ∙ by (set.contains G q) (set.contains (set.from_list B) q)
    ∙ sym (set.contains-difference triples_total G (set.from_list B) q)) where
      by : (g b : Bool) → (g && not (b && g)) ≡ (g && not b)
      by true true = refl
      by true false = refl
      by false b = refl

pub len-with_all : (G : Graph) (B : List Triple) → set.len (with_all G B) ≡ set.len G + set.len (lacked G B)
len-with_all G B = ap set.len (sym (union-lacked G B)) ∙ len-union_disjoint triples_total exact_triples G (lacked G B) (λ q e.
    by (set.contains (set.from_list B) q) (set.contains G q) (sym (set.contains-difference triples_total (set.from_list B) G q) ∙ e)) where
      by : (b g : Bool) → (b && not g) ≡ true → g ≡ false
      by b false e = refl
      by true true e = absurd (let f : false ≡ true = e in let t : ⊥ = cc in t)
      by false true e = absurd (let f : false ≡ true = e in let t : ⊥ = cc in t)
