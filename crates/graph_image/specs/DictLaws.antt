-- The graph of a set of triples of Ids in a dictionary that changes: Ids come, and Ids that no triple has go.
use Rattle.std.specs.Prelude.{◌≡◌, ◌⊎◌, ℕ, ◌||◌, not, Bool, true, false, cond, List, [], ◌∷◌, ◌++◌, refl, Option, None, Some, IsSome, unwrap_or}
use Rattle.std.proofs.Common.{sym, ◌∙◌, ap, subst, inl, inr}
use Rattle.std.proofs.lemmas.List.Folds.{list_any-append}
use Rattle.std.specs.Ordering.{eq_by_cmp, nat_cmp}
use Rattle.std.specs.Cmp.{nat_cmp_total as total}
use Rattle.std.specs.FinMap as map
use Rattle.std.specs.FinMap.{nat_cmp-IsAntisymmetric as exact}
use Rattle.std.specs.FinSet as set
use Rattle.hypertrie_model.specs.IdSets.{IdSet}
use Rattle.hypertrie_model.specs.Sets.{has}
use Rattle.hypertrie_model.specs.SetLaws.{or_cases, or_right, or-false, tied-is, tied-itself}
use Rattle.hypertrie_model.specs.MapLaws.{by_key, same_maps, get-insert_here, get-insert_other, get-remove_here, get-remove_other}
use Rattle.rdf_model.specs.Terms.{Term, Iri}
use Rattle.rdf_model.specs.Graph.{term_cmp, terms_total, exact_terms, triples_total, exact_triples}
use Rattle.set_image.specs.ImageLaws.{image-same}
use Rattle.term_dict.specs.Dict.{Terms, Interns}
use Rattle.graph_image.specs.Images.{term_at, triple_at, graph_of, IsKnown, AreKnown, HasExactly, is_among, without, IsUsed}
use Rattle.graph_image.specs.ImageLaws.{tuples_total, tuples_exact, get_is}

-- ---- Ids that are used

pub used_s : (terms : Terms) (H : IdSet) (t : List ℕ) → has H t ≡ true → (k : IsKnown terms t) → IsUsed H k.s
used_s terms H t e k = record { tuple = t; there = e; among = ap (λ u. is_among u k.s) k.is ∙ ap (λ b. b || is_among (k.p ∷ k.o ∷ []) k.s) (tied-itself total k.s) }

pub used_p : (terms : Terms) (H : IdSet) (t : List ℕ) → has H t ≡ true → (k : IsKnown terms t) → IsUsed H k.p
used_p terms H t e k = record { tuple = t; there = e; among = ap (λ u. is_among u k.p) k.is ∙ or_right (eq_by_cmp nat_cmp k.p k.s) (is_among (k.p ∷ k.o ∷ []) k.p) (ap (λ b. b || is_among (k.o ∷ []) k.p) (tied-itself total k.p)) }

pub used_o : (terms : Terms) (H : IdSet) (t : List ℕ) → has H t ≡ true → (k : IsKnown terms t) → IsUsed H k.o
used_o terms H t e k = record { tuple = t; there = e; among = ap (λ u. is_among u k.o) k.is ∙ or_right (eq_by_cmp nat_cmp k.o k.s) (is_among (k.p ∷ k.o ∷ []) k.o) (or_right (eq_by_cmp nat_cmp k.o k.p) (is_among (k.o ∷ []) k.o) (ap (λ b. b || is_among [] k.o) (tied-itself total k.o))) }

-- an Id of a known tuple is its subject, predicate or object
pub among_known : (terms : Terms) (t : List ℕ) (k : IsKnown terms t) (id : ℕ) → is_among t id ≡ true → (id ≡ k.s) ⊎ ((id ≡ k.p) ⊎ (id ≡ k.o))
among_known terms t k id e =
    or_cases (eq_by_cmp nat_cmp id k.s) (is_among (k.p ∷ k.o ∷ []) id) (ap (λ u. is_among u id) (sym k.is) ∙ e) _
    (λ a. inl (tied-is exact id k.s a))
    (λ r. or_cases (eq_by_cmp nat_cmp id k.p) (is_among (k.o ∷ []) id) r _
    (λ a. inr (inl (tied-is exact id k.p a)))
    (λ q. inr (inr (tied-is exact id k.o (sym (or-false (eq_by_cmp nat_cmp id k.o)) ∙ q)))))

pub known_there : (terms : Terms) (t : List ℕ) (k : IsKnown terms t) (id : ℕ) → is_among t id ≡ true → IsSome (map.get terms id)
known_there terms t k id e = elim (among_known terms t k id e) [
  | inl is ↦ subst (λ n. IsSome (map.get terms n)) (sym is) k.subject
  | inr (inl is) ↦ subst (λ n. IsSome (map.get terms n)) (sym is) k.predicate
  | inr (inr is) ↦ subst (λ n. IsSome (map.get terms n)) (sym is) k.object
]

-- both dictionaries have the same terms for the Ids that the set uses
abbrev pub AgreeOnUsed : Terms → Terms → IdSet → Type 0
AgreeOnUsed terms new H = (id : ℕ) → IsUsed H id → map.get new id ≡ map.get terms id

pub known_same : (terms new : Terms) (H : IdSet) → AreKnown terms H → AgreeOnUsed terms new H → AreKnown new H
known_same terms new H known agree t e =
    let k = known t e in
    record {
      s = k.s;
      p = k.p;
      o = k.o;
      is = k.is;
      subject = subst IsSome (sym (agree k.s (used_s terms H t e k))) k.subject;
      predicate = subst IsSome (sym (agree k.p (used_p terms H t e k))) k.predicate;
      object = subst IsSome (sym (agree k.o (used_o terms H t e k))) k.object;
    }

-- so both read it as one graph
pub graph_same : (terms new : Terms) (H : IdSet) → AreKnown terms H → AgreeOnUsed terms new H → graph_of new H ≡ graph_of terms H
graph_same terms new H known agree = image-same tuples_total tuples_exact triples_total exact_triples (triple_at new) (triple_at terms) H (λ t e.
    let k = known t e in
    let at : (id : ℕ) → IsUsed H id → term_at new id ≡ term_at terms id = λ id used. ap (λ o. unwrap_or o (Iri [])) (agree id used) in
    ap (triple_at new) k.is
    ∙ (λ i. record { s = at k.s (used_s terms H t e k) i; p = at k.p (used_p terms H t e k) i; o = at k.o (used_o terms H t e k) i })
    ∙ ap (triple_at terms) (sym k.is))

-- ---- a dictionary with more terms

abbrev pub Extends : Terms → Terms → Type 0
Extends old new = (id : ℕ) (t : Term) → map.get old id ≡ Some t → map.get new id ≡ Some t

pub extends_on : (a b c : Terms) → Extends a b → Extends b c → Extends a c
extends_on a b c f g id t e = g id t (f id t e)

pub extends_there : (old new : Terms) → Extends old new → (id : ℕ) → IsSome (map.get old id) → IsSome (map.get new id)
extends_there old new more id there = subst IsSome (sym (more id (term_at old id) (get_is old id there))) refl

pub extends_agree : (old new : Terms) (H : IdSet) → AreKnown old H → Extends old new → AgreeOnUsed old new H
extends_agree old new H known more id used =
    let there = known_there old used.tuple (known used.tuple used.there) id used.among in
    more id (term_at old id) (get_is old id there) ∙ sym (get_is old id there)

module _ (old new : Terms) (t : Term) (id : ℕ) (fresh : map.get old id ≡ None) (added : new ≡ map.insert old id t) where
  pub insert_at : map.get new id ≡ Some t
  insert_at = ap (λ m. map.get m id) added ∙ get-insert_here total exact old id t

  pub insert_other : (q : ℕ) → (q ≡ id → ⊥) → map.get new q ≡ map.get old q
  insert_other q ne = ap (λ m. map.get m q) added ∙ get-insert_other total exact old id t q ne

  apart : (q : ℕ) (u : Term) → map.get old q ≡ Some u → q ≡ id → ⊥
  apart q u e is = let f : None ≡ Some u = sym fresh ∙ ap (map.get old) (sym is) ∙ e in cc

  pub insert_extends : Extends old new
  insert_extends q u e = insert_other q (apart q u e) ∙ e

  pub insert_exactly : (S : set.FinSet term_cmp) → HasExactly old S → HasExactly new (set.insert S t)
  insert_exactly S h = record {
    onto = λ u e. or_cases (eq_by_cmp term_cmp u t) (set.contains S u) (sym (set.contains-insert terms_total S t u) ∙ e) ((q : ℕ) × (map.get new q ≡ Some u))
        (λ here. (id, insert_at ∙ ap Some (sym (tied-is exact_terms u t here))))
        (λ rest. let o = h.onto u rest in (o.0, insert_extends o.0 u o.1));
    into = λ q u e. set.contains-insert terms_total S t u ∙ by_key total exact (λ _. (eq_by_cmp term_cmp u t || set.contains S u) ≡ true) q id
        (λ is. let same : u ≡ t = of_some u t (sym e ∙ ap (map.get new) is ∙ insert_at) in ap (λ b. b || set.contains S u) (ap (λ v. eq_by_cmp term_cmp v t) same ∙ tied-itself terms_total t))
        (λ ne. or_right (eq_by_cmp term_cmp u t) (set.contains S u) (h.into q u (sym (insert_other q ne) ∙ e)));
  } where
    of_some : (a b : Term) → Some a ≡ Some b → a ≡ b
    of_some a b e = cc

insert_member : (S : set.FinSet term_cmp) (t : Term) → set.contains S t ≡ true → set.insert S t ≡ S
insert_member S t e = set.same_set terms_total exact_terms _ _ (λ q. set.contains-insert terms_total S t q
    ∙ by_key terms_total exact_terms (λ b. (b || set.contains S q) ≡ set.contains S q) q t (λ is. sym (ap (set.contains S) is ∙ e)) (λ _. refl))

pub interns_extends : (old new : Terms) (t : Term) (id : ℕ) → Interns old new t id → Extends old new
interns_extends old new t id (inl same) q u e = ap (λ m. map.get m q) same.1 ∙ e
interns_extends old new t id (inr more) q u e = insert_extends old new t id more.1 more.2 q u e

pub interns_at : (old new : Terms) (t : Term) (id : ℕ) → Interns old new t id → map.get new id ≡ Some t
interns_at old new t id (inl same) = ap (λ m. map.get m id) same.1 ∙ same.0
interns_at old new t id (inr more) = insert_at old new t id more.1 more.2

pub interns_exactly : (old new : Terms) (t : Term) (id : ℕ) (S : set.FinSet term_cmp) → Interns old new t id → HasExactly old S → HasExactly new (set.insert S t)
interns_exactly old new t id S (inl same) h = subst (λ m. HasExactly m (set.insert S t)) (sym same.1) (subst (HasExactly old) (sym (insert_member S t (h.into id t same.0))) h)
interns_exactly old new t id S (inr more) h = insert_exactly old new t id more.1 more.2 S h

-- ---- a dictionary without some Ids

pub get-without : (terms : Terms) (ids : List ℕ) (q : ℕ) → map.get (without terms ids) q ≡ cond (is_among ids q) None (map.get terms q)
get-without terms ids q = map.get-retain_keys terms (λ id. not (is_among ids id)) q (λ x e. ap (λ id. not (is_among ids id)) (sym (exact q x e))) ∙ turned (is_among ids q) where
  turned : (b : Bool) → cond (not b) (map.get terms q) None ≡ cond b None (map.get terms q)
  turned true = refl
  turned false = refl

pub without-none : (terms : Terms) → without terms [] ≡ terms
without-none terms = same_maps total exact _ _ (λ q. get-without terms [] q)

-- one Id more goes
pub without-cons : (terms : Terms) (id : ℕ) (ids : List ℕ) → without terms (id ∷ ids) ≡ map.remove (without terms ids) id
without-cons terms id ids = same_maps total exact _ _ (λ q. get-without terms (id ∷ ids) q ∙ by_key total exact (λ b. cond (b || is_among ids q) None (map.get terms q) ≡ map.get (map.remove (without terms ids) id) q) q id
    (λ is. sym (ap (map.get (map.remove (without terms ids) id)) is ∙ get-remove_here total exact (without terms ids) id))
    (λ ne. sym (get-remove_other total exact (without terms ids) id q ne ∙ get-without terms ids q)))

-- what came and goes again leaves no trace
pub without-added : (old new : Terms) (t : Term) (id : ℕ) (ids : List ℕ) → map.get old id ≡ None → new ≡ map.insert old id t → without new (ids ++ id ∷ []) ≡ without old ids
without-added old new t id ids fresh added = same_maps total exact _ _ (λ q.
    get-without new (ids ++ id ∷ []) q
    ∙ ap (λ b. cond b None (map.get new q)) (list_any-append (eq_by_cmp nat_cmp q) ids (id ∷ []))
    ∙ by_key total exact (λ b. cond (is_among ids q || (b || false)) None (map.get new q) ≡ cond (is_among ids q) None (map.get old q)) q id
    (λ is. gone (is_among ids q) (map.get new q) (map.get old q) (ap (map.get old) is ∙ fresh))
    (λ ne. ap (λ o. cond (is_among ids q || false) None o) (insert_other old new t id fresh added q ne) ∙ ap (λ b. cond b None (map.get old q)) (or-false (is_among ids q)))
    ∙ sym (get-without old ids q)) where
      gone : (b : Bool) (x y : Option Term) → y ≡ None → cond (b || true) None x ≡ cond b None y
      gone true x y e = refl
      gone false x y e = sym e

-- the Ids that a set uses stay
pub without_agree : (terms : Terms) (ids : List ℕ) (H : IdSet) → ((id : ℕ) → IsUsed H id → is_among ids id ≡ false) → AgreeOnUsed terms (without terms ids) H
without_agree terms ids H keeps id used = get-without terms ids id ∙ ap (λ b. cond b None (map.get terms id)) (keeps id used)
