-- A dictionary that loses those of some Ids that no triple has any more.
use Rattle.std.proofs.Common.{◌≡◌, ◌∙◌, ℕ, ◌||◌, ◌&&◌, not, Bool, true, false, List, [], ◌∷◌, ◌++◌, None, Some, refl, sym, ap, subst, inl, inr, arith}
use Rattle.std.specs.Ordering.{eq_by_cmp, nat_cmp}
use Rattle.std.specs.Cmp.{nat_cmp_total as total}
use Rattle.std.specs.FinMap as map
use Rattle.std.specs.FinMap.{nat_cmp-IsAntisymmetric as exact}
use Rattle.std.specs.FinSet as set
use Rattle.hypertrie_model.specs.IdSets.{IdSet}
use Rattle.hypertrie_model.specs.Sets.{has}
use Rattle.hypertrie_model.specs.SetLaws.{or_cases, or_right, or-false, tied-is, tied-itself}
use Rattle.hypertrie_model.specs.MapLaws.{by_key, get-remove_here, get-remove_other}
use Rattle.hypertrie_model.specs.Changes.{IsChange}
use Rattle.hypertrie_model.specs.ChangeLaws.{len-shrunk}
use Rattle.rdf_model.specs.Terms.{Term, Triple}
use Rattle.rdf_model.specs.Graph.{triples_total}
use Rattle.term_dict.specs.Dict.{Terms, IsOneToOne}
use Rattle.trie_context.specs.declared.root.Root.{Root}
use Rattle.trie_context.specs.declared.tables.Tables.{Tables}
use Rattle.trie_context.specs.Roots.{root_set}
use Rattle.trie_context.specs.RootShape.{OnlyRootHeld}
use Rattle.graph_image.specs.Images.{triple_at, graph_of, AreKnown, terms_of, HasExactly, is_among, IsUsed}
use Rattle.graph_image.specs.TermLaws.{term_in}
use Rattle.graph_image.specs.ImageLaws.{tuples_total, get_is, term_is, in_graph, known_within, known_difference, graph_of-difference}
use Rattle.graph_image.specs.DictLaws.{AgreeOnUsed, known_same, graph_same, used_s, used_p, used_o}
use Rattle.ntriples_model.specs.Proper.{AreProper}
use Rattle.graph_store.specs.StoreState.{IsSoundStore}
use Rattle.graph_store.specs.Forgotten.{Forgets}
use Rattle.graph_store.proofs.NotedLemmas.{among-append}
use Rattle.graph_store.proofs.StagingLemmas.{used_term}

-- ---- one Id after another

module _ (old : Terms) (Used : ℕ → Type 0) where
  pub forgets_none : Forgets old old [] Used
  forgets_none = record { unlisted = λ q e. refl; used = λ q u. refl; unused = λ q e. absurd (let f : ⊥ = cc in f) }

  module _ (new : Terms) (ids : List ℕ) (id : ℕ) (so_far : Forgets old new ids Used) where
    among_last : (q : ℕ) → is_among (ids ++ id ∷ []) q ≡ (is_among ids q || eq_by_cmp nat_cmp q id)
    among_last q = among-append ids (id ∷ []) q ∙ ap (λ b. is_among ids q || b) (or-false (eq_by_cmp nat_cmp q id))

    left_false : (a b : Bool) → (a || b) ≡ false → a ≡ false
    left_false true b e = e
    left_false false b e = refl

    apart_last : (q : ℕ) → is_among (ids ++ id ∷ []) q ≡ false → q ≡ id → ⊥
    apart_last q e is = let f : true ≡ false = sym (among_last q ∙ or_right (is_among ids q) (eq_by_cmp nat_cmp q id) (ap (λ z. eq_by_cmp nat_cmp z id) is ∙ tied-itself total id)) ∙ e in cc

    earlier : (q : ℕ) → is_among (ids ++ id ∷ []) q ≡ true → (q ≡ id → ⊥) → is_among ids q ≡ true
    earlier q e ne = or_cases (is_among ids q) (eq_by_cmp nat_cmp q id) (sym (among_last q) ∙ e) _ (λ a. a) (λ here. absurd (ne (tied-is exact q id here)))

    -- it is used, and stays
    pub forgets_kept : Used id → Forgets old new (ids ++ id ∷ []) Used
    forgets_kept u = record {
      unlisted = λ q e. so_far.unlisted q (left_false (is_among ids q) (eq_by_cmp nat_cmp q id) (sym (among_last q) ∙ e));
      used = so_far.used;
      unused = λ q e n. so_far.unused q (earlier q e (λ is. n (subst Used (sym is) u))) n;
    }

    -- it isn't, and goes
    pub forgets_gone : (Used id → ⊥) → Forgets old (map.remove new id) (ids ++ id ∷ []) Used
    forgets_gone n = record {
      unlisted = λ q e. get-remove_other total exact new id q (apart_last q e) ∙ so_far.unlisted q (left_false (is_among ids q) (eq_by_cmp nat_cmp q id) (sym (among_last q) ∙ e));
      used = λ q u. get-remove_other total exact new id q (λ is. n (subst Used is u)) ∙ so_far.used q u;
      unused = λ q e m. by_key total exact (λ _. map.get (map.remove new id) q ≡ None) q id
          (λ is. ap (map.get (map.remove new id)) is ∙ get-remove_here total exact new id)
          (λ ne. get-remove_other total exact new id q ne ∙ so_far.unused q (earlier q e ne) m);
    }

-- ---- what is left

-- each term of a graph that is read through a dictionary has an Id
known_terms : (terms : Terms) (H : IdSet) → AreKnown terms H → (x : Term) → set.contains (terms_of (graph_of terms H)) x ≡ true → (id : ℕ) × IsUsed H id × (map.get terms id ≡ Some x)
known_terms terms H known x e =
    let at = term_in (graph_of terms H) x e in
    let v = in_graph terms H at.triple at.there in
    let k = known v.member v.there in
    let is : triple_at terms (k.s ∷ k.p ∷ k.o ∷ []) ≡ at.triple = ap (triple_at terms) (sym k.is) ∙ v.is in
    elim at.is [
      | inl a ↦ (k.s, used_s terms H v.member v.there k, get_is terms k.s k.subject ∙ ap (λ (q : Triple). Some q.s) is ∙ ap Some (sym a))
      | inr (inl a) ↦ (k.p, used_p terms H v.member v.there k, get_is terms k.p k.predicate ∙ ap (λ (q : Triple). Some q.p) is ∙ ap Some (sym a))
      | inr (inr a) ↦ (k.o, used_o terms H v.member v.there k, get_is terms k.o k.object ∙ ap (λ (q : Triple). Some q.o) is ∙ ap Some (sym a))
    ]

module _ (d : Terms) (t : Tables) (r : Root) (max : ℕ) (marked : IdSet) (sound : IsSoundStore d t r max) (one : IsOneToOne d) (settled : HasExactly d (terms_of (graph_of d (root_set t r)))) (there : IsChange false (root_set t r) marked) where
  abbrev H : IdSet
  H = root_set t r

  abbrev rest : IdSet
  rest = set.difference H marked

  pub marked_known : AreKnown d marked
  marked_known = known_within d H marked there sound.known

  pub rest_graph : graph_of d rest ≡ set.difference (graph_of d H) (graph_of d marked)
  rest_graph = graph_of-difference d one H marked sound.known marked_known

  module _ (ids : List ℕ) (all : (id : ℕ) → IsUsed marked id → is_among ids id ≡ true) (new : Terms) (forgets : Forgets d new ids (IsUsed rest)) where
    agree : AgreeOnUsed d new rest
    agree id used = forgets.used id used

    pub left_known : AreKnown new rest
    left_known = known_same d new rest (known_difference d H marked sound.known) agree

    pub left_graph : graph_of new rest ≡ set.difference (graph_of d H) (graph_of d marked)
    left_graph = graph_same d new rest (known_difference d H marked sound.known) agree ∙ rest_graph

    in_rest : (u : List ℕ) → has H u ≡ true → has marked u ≡ false → has rest u ≡ true
    in_rest u e n = set.contains-difference tuples_total H marked u ∙ (λ i. e i && not (n i))

    kept_term : (id : ℕ) (x : Term) → map.get new id ≡ Some x → set.contains (terms_of (graph_of new rest)) x ≡ true
    kept_term id x e = by (set.contains (terms_of (graph_of new rest)) x) refl where
      used_there : IsUsed rest id → set.contains (terms_of (graph_of new rest)) x ≡ true
      used_there used = ap (set.contains (terms_of (graph_of new rest))) (sym (term_is new id x e)) ∙ used_term new rest left_known id used

      unlisted : is_among ids id ≡ false → set.contains (terms_of (graph_of new rest)) x ≡ true
      unlisted out =
          let at : map.get d id ≡ Some x = sym (forgets.unlisted id out) ∙ e in
          let h = known_terms d H sound.known x (settled.into id x at) in
          let same : h.0 ≡ id = one h.0 id x h.2 at in
          let used : IsUsed H id = subst (IsUsed H) same h.1 in
          or_cases (has marked used.tuple) (not (has marked used.tuple)) (either (has marked used.tuple)) _
          (λ m. absurd (let f : true ≡ false = sym (all id (record { tuple = used.tuple; there = m; among = used.among })) ∙ out in let g : ⊥ = cc in g))
          (λ n. used_there (record { tuple = used.tuple; there = in_rest used.tuple used.there (negated (has marked used.tuple) n); among = used.among }))
        where
          either : (b : Bool) → (b || not b) ≡ true
          either true = refl
          either false = refl

          negated : (b : Bool) → not b ≡ true → b ≡ false
          negated true n = absurd (let f : ⊥ = cc in f)
          negated false n = refl

      by : (b : Bool) → set.contains (terms_of (graph_of new rest)) x ≡ b → set.contains (terms_of (graph_of new rest)) x ≡ true
      by true is = is
      by false is = listed (is_among ids id) refl where
        listed : (c : Bool) → is_among ids id ≡ c → set.contains (terms_of (graph_of new rest)) x ≡ true
        listed true among = absurd (
            let none = forgets.unused id among (λ used. let f : true ≡ false = sym (used_there used) ∙ is in cc) in
            let f : None ≡ Some x = sym none ∙ e in let g : ⊥ = cc in g)
        listed false among = unlisted among

    left_settled : HasExactly new (terms_of (graph_of new rest))
    left_settled = record {
      onto = λ x e. let h = known_terms new rest left_known x e in (h.0, h.2);
      into = kept_term;
    }

    module _ (u : Tables) (q : Root) (only : OnlyRootHeld u q) (left : root_set u q ≡ rest) where
      pub deleted_graph : graph_of new (root_set u q) ≡ set.difference (graph_of d H) (graph_of d marked)
      deleted_graph = ap (graph_of new) left ∙ left_graph

      pub deleted_settled : HasExactly new (terms_of (graph_of new (root_set u q)))
      deleted_settled = subst (λ K. HasExactly new (terms_of (graph_of new K))) (sym left) left_settled

      pub deleted_sound : IsSoundStore new u q max
      deleted_sound = record {
        only = only;
        known = subst (AreKnown new) (sym left) left_known;
        proper = subst AreProper (sym deleted_graph) (λ x e. sound.proper x (part x e));
        few =
            let n = ap set.len left in
            let m = len-shrunk total exact H marked there in
            omega (arith, n, m, sound.few);
        limit = sound.limit;
      } where
        part : (x : Triple) → set.contains (set.difference (graph_of d H) (graph_of d marked)) x ≡ true → set.contains (graph_of d H) x ≡ true
        part x e = first (set.contains (graph_of d H) x) (not (set.contains (graph_of d marked) x)) (sym (set.contains-difference triples_total (graph_of d H) (graph_of d marked) x) ∙ e) where
          first : (a b : Bool) → (a && b) ≡ true → a ≡ true
          first true b e = refl
          first false b e = e
