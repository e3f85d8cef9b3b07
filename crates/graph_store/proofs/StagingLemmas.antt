-- A store with staged triples: before anything was staged, with one triple more, and with all of them put in.
use Rattle.std.proofs.Common.{◌≡◌, ◌∙◌, ℕ, ◌+◌, ◌≤◌, ◌<◌, ◌||◌, not, Bool, true, false, cond, List, [], ◌∷◌, ◌++◌, Option, None, Some, IsSome, is_some, refl, sym, ap, subst, inl, inr, arith}
use Rattle.std.proofs.lemmas.Bool.{false_from_ne_true}
use Rattle.std.specs.Ordering.{eq_by_cmp, nat_cmp}
use Rattle.std.specs.Cmp.{nat_cmp_total as total}
use Rattle.std.specs.Cmp.Lexicographic.{slice_cmp}
use Rattle.std.specs.FinMap as map
use Rattle.std.specs.FinMap.{nat_cmp-IsAntisymmetric as exact}
use Rattle.std.specs.FinSet as set
use Rattle.hypertrie_model.specs.IdSets.{IdSet}
use Rattle.hypertrie_model.specs.Sets.{has}
use Rattle.hypertrie_model.specs.SetLaws.{or_cases, or_right, tied-is}
use Rattle.hypertrie_model.specs.SetInduction.{union_insert}
use Rattle.hypertrie_model.specs.MapLaws.{same_maps}
use Rattle.hypertrie_model.specs.ChangeLaws.{len-grown}
use Rattle.rdf_model.specs.Terms.{Term, Triple}
use Rattle.rdf_model.specs.Graph.{Graph, term_cmp, triple_cmp, triples_total, exact_triples}
use Rattle.term_dict.specs.Dict.{Terms, IsOneToOne}
use Rattle.trie_depth.specs.declared.id.Id.{Id}
use Rattle.trie_depth.specs.declared.id.Trip.{Trip}
use Rattle.trie_depth.specs.Tuples.{trip_tuple}
use Rattle.trie_context.specs.declared.root.Root.{Root}
use Rattle.trie_context.specs.declared.tables.Tables.{Tables}
use Rattle.trie_context.specs.Roots.{root_set}
use Rattle.trie_context.specs.RootShape.{OnlyRootHeld}
use Rattle.graph_image.specs.Images.{term_at, triple_at, graph_of, AreKnown, terms_of, HasExactly, is_among, without, IsUsed}
use Rattle.graph_image.specs.TermLaws.{IsTermOf, term_in, in_terms, len-terms, len-terms_of}
use Rattle.graph_image.specs.ImageLaws.{tuples_total, tuples_exact, get_is, graph_in, known_union, known_insert, graph_of-insert, graph_of-union, len-graph_of}
use Rattle.graph_image.specs.DictLaws.{AgreeOnUsed, known_same, graph_same, extends_agree, without_agree, get-without, among_known, known_there}
use Rattle.ntriples_model.specs.Proper.{IsProperTriple, AreProper}
use Rattle.graph_store.specs.StoreState.{StoreState, IsSoundStore, most_triples}
use Rattle.graph_store.specs.Staging.{Staging, numbers, AreDistinct, Fits}
use Rattle.graph_store.specs.Noted.{Grows, HasIds, with_terms}
use Rattle.graph_store.proofs.NotedLemmas.{numbers-append, among-append, distinct-append}
use Rattle.graph_store.proofs.TermsLemmas.{terms_of-insert, insert_member, len-insert_most, len-graphs_most, triple_is, trip_known}

or_left : (a b : Bool) → a ≡ true → (a || b) ≡ true
or_left a b e = ap (λ c. c || b) e

proper_union : (G H : Graph) → AreProper G → AreProper H → AreProper (set.union G H)
proper_union G H g h t e = or_cases (set.contains G t) (set.contains H t) (sym (set.contains-union triples_total G H t) ∙ e) (IsProperTriple t) (g t) (h t)

proper_insert : (G : Graph) (t : Triple) → AreProper G → IsProperTriple t → AreProper (set.insert G t)
proper_insert G t g p q e = or_cases (eq_by_cmp triple_cmp q t) (set.contains G q) (sym (set.contains-insert triples_total G t q) ∙ e) (IsProperTriple q)
    (λ is. subst IsProperTriple (sym (tied-is exact_triples q t is)) p)
    (g q)

-- the term of an Id that known triples use is one of their graph
pub used_term : (terms : Terms) (H : IdSet) → AreKnown terms H → (id : ℕ) → IsUsed H id → set.contains (terms_of (graph_of terms H)) (term_at terms id) ≡ true
used_term terms H known id used =
    let k = known used.tuple used.there in
    let there = graph_in terms H used.tuple used.there in
    let same : triple_at terms used.tuple ≡ triple_at terms (k.s ∷ k.p ∷ k.o ∷ []) = ap (triple_at terms) k.is in
    let of : IsTermOf (term_at terms id) (triple_at terms (k.s ∷ k.p ∷ k.o ∷ [])) = elim (among_known terms used.tuple k id used.among) [
      | inl is ↦ inl (ap (term_at terms) is)
      | inr (inl is) ↦ inr (inl (ap (term_at terms) is))
      | inr (inr is) ↦ inr (inr (ap (term_at terms) is))
    ] in
    in_terms (graph_of terms H) (triple_at terms used.tuple) there (term_at terms id) (subst (IsTermOf (term_at terms id)) (sym same) of)

not_false : (b c : Bool) → b ≡ not c → b ≡ false → c ≡ true
not_false b true e f = refl
not_false b false e f = absurd (let g : true ≡ false = sym e ∙ f in let h : ⊥ = cc in h)

-- ---- a store that the staged triples fit

module _ (d : Terms) (t : Tables) (r : Root) (max : ℕ) (b : Staging) (sound : IsSoundStore d t r max) (fits : Fits (record { dict = d; tables = t; root = r; max = max }) b) where
  abbrev H : IdSet
  H = root_set t r

  abbrev G : Graph
  G = graph_of d H

  abbrev S : Graph
  S = graph_of d b.triples

  pub len-graph : IsOneToOne d → set.len G ≡ set.len H
  len-graph one = len-graph_of d one H sound.known

  pub len-staged : IsOneToOne d → set.len S ≡ set.len b.triples
  len-staged one = len-graph_of d one b.triples fits.known

  -- the dictionary has room
  pub terms_few : IsOneToOne d → map.len d ≤ 1500000000
  terms_few one =
      let n = len-terms d (terms_of (set.union G S)) one fits.exactly in
      let m = len-terms_of (set.union G S) in
      let k = len-graphs_most G S in
      omega (arith, n, m, k, fits.few)

  -- ---- before anything was staged

  unused : (id : ℕ) → IsUsed H id → is_among b.added id ≡ false
  unused id used =
      let there = known_there d used.tuple (sound.known used.tuple used.there) id used.among in
      fits.added id (term_at d id) (get_is d id there) ∙ ap not (used_term d H sound.known id used)

  agree : AgreeOnUsed d (without d b.added) H
  agree = without_agree d b.added H unused

  pub before_graph : graph_of (without d b.added) H ≡ G
  before_graph = graph_same d (without d b.added) H sound.known agree

  pub before_sound : IsSoundStore (without d b.added) t r max
  before_sound = record {
    only = sound.only;
    known = known_same d (without d b.added) H sound.known agree;
    proper = subst AreProper (sym before_graph) sound.proper;
    few = sound.few;
    limit = sound.limit;
  }

  pub before_settled : HasExactly (without d b.added) (terms_of (graph_of (without d b.added) H))
  before_settled = subst (λ K. HasExactly (without d b.added) (terms_of K)) (sym before_graph) (record {
    onto = λ x e.
        let at = term_in G x e in
        let both = set.contains-union triples_total G S at.triple ∙ or_left (set.contains G at.triple) (set.contains S at.triple) at.there in
        let id = fits.exactly.onto x (in_terms (set.union G S) at.triple both x at.is) in
        (id.0, get-without d b.added id.0 ∙ ap (λ c. cond c None (map.get d id.0)) (fits.added id.0 x id.1 ∙ ap not e) ∙ id.1);
    into = λ id x e. kept id x (is_among b.added id) refl (sym (get-without d b.added id) ∙ e);
  }) where
    kept : (id : ℕ) (x : Term) (c : Bool) → is_among b.added id ≡ c → cond (is_among b.added id) None (map.get d id) ≡ Some x → set.contains (terms_of G) x ≡ true
    kept id x true is e = absurd (let f : None ≡ Some x = sym (ap (λ c. cond c None (map.get d id)) is) ∙ e in let g : ⊥ = cc in g)
    kept id x false is e =
        let at : map.get d id ≡ Some x = sym (ap (λ c. cond c None (map.get d id)) is) ∙ e in
        not_false (is_among b.added id) (set.contains (terms_of G) x) (fits.added id x at) is

  -- ---- all put in

  module _ (u : Tables) (q : Root) (only : OnlyRootHeld u q) (put : root_set u q ≡ set.union H b.triples) where
    pub put_graph : graph_of d (root_set u q) ≡ set.union G S
    put_graph = ap (graph_of d) put ∙ graph_of-union d H b.triples

    pub put_sound : IsOneToOne d → IsSoundStore d u q max
    put_sound one = record {
      only = only;
      known = subst (AreKnown d) (sym put) (known_union d H b.triples sound.known fits.known);
      proper = subst AreProper (sym put_graph) (proper_union G S sound.proper fits.proper);
      few =
          let n = ap set.len put in
          let m = len-grown total exact H b.triples fits.new in
          omega (arith, n, m, len-graph one, len-staged one, fits.few);
      limit = sound.limit;
    }

    pub put_settled : HasExactly d (terms_of (graph_of d (root_set u q)))
    put_settled = subst (λ K. HasExactly d (terms_of K)) (sym put_graph) fits.exactly

  -- ---- one triple more

  module _ (noted more : List Id) (listed : b.added ≡ numbers noted) (e : Terms) (grows : Grows d noted e more) where
    same_H : AgreeOnUsed d e H
    same_H = extends_agree d e H sound.known grows.extends

    same_B : AgreeOnUsed d e b.triples
    same_B = extends_agree d e b.triples fits.known grows.extends

    pub grown_graph : graph_of e H ≡ G
    grown_graph = graph_same d e H sound.known same_H

    pub grown_staged : graph_of e b.triples ≡ S
    grown_staged = graph_same d e b.triples fits.known same_B

    pub grown_sound : IsSoundStore e t r max
    grown_sound = record {
      only = sound.only;
      known = known_same d e H sound.known same_H;
      proper = subst AreProper (sym grown_graph) sound.proper;
      few = sound.few;
      limit = sound.limit;
    }

    all_more : numbers more ≡ b.added ++ numbers grows.rest
    all_more = ap numbers grows.listed ∙ numbers-append noted grows.rest ∙ ap (λ ns. ns ++ numbers grows.rest) (sym listed)

    among_more : (id : ℕ) → is_among (numbers more) id ≡ (is_among b.added id || is_among (numbers grows.rest) id)
    among_more id = ap (λ ns. is_among ns id) all_more ∙ among-append b.added (numbers grows.rest) id

    pub same_before : without e (numbers more) ≡ without d b.added
    same_before = same_maps total exact _ _ (λ id.
        get-without e (numbers more) id ∙ ap (λ c. cond c None (map.get e id)) (among_more id)
        ∙ by_one (is_among b.added id) (is_among (numbers grows.rest) id) (map.get e id)
        ∙ ap (λ o. cond (is_among b.added id) None o) (sym (get-without e (numbers grows.rest) id) ∙ ap (λ m. map.get m id) grows.back)
        ∙ sym (get-without d b.added id)) where
          by_one : (x y : Bool) (o : Option Term) → cond (x || y) None o ≡ cond x None (cond y None o)
          by_one true y o = refl
          by_one false y o = refl

    old_there : (id : ℕ) → is_among b.added id ≡ true → IsSome (map.get e id)
    old_there id among = by (map.get d id) refl where
      by : (o : Option Term) → map.get d id ≡ o → IsSome (map.get e id)
      by None none = absurd (let f : false ≡ true = sym (ap is_some none) ∙ fits.there id among in let g : ⊥ = cc in g)
      by (Some x) at = ap is_some (grows.extends id x at)

    apart : (id : ℕ) → is_among b.added id ≡ true → is_among (numbers grows.rest) id ≡ false
    apart id among = false_from_ne_true _ (λ later. let f : false ≡ true = sym (ap is_some (grows.fresh id later)) ∙ fits.there id among in cc)

    -- the Ids that are new are those of terms that the graph doesn't have
    more_added : (id : ℕ) (x : Term) → map.get e id ≡ Some x → is_among (numbers more) id ≡ not (set.contains (terms_of G) x)
    more_added id x at = among_more id ∙ by (is_among (numbers grows.rest) id) refl where
      by : (c : Bool) → is_among (numbers grows.rest) id ≡ c → (is_among b.added id || is_among (numbers grows.rest) id) ≡ not (set.contains (terms_of G) x)
      by true new =
          let fresh = grows.new_terms id x new at in
          let out : set.contains (terms_of G) x ≡ false = false_from_ne_true _ (λ there.
          let in_g = term_in G x there in
          let both = set.contains-union triples_total G S in_g.triple ∙ or_left (set.contains G in_g.triple) (set.contains S in_g.triple) in_g.there in
          let had = fits.exactly.onto x (in_terms (set.union G S) in_g.triple both x in_g.is) in
          fresh had.0 had.1) in
          or_right (is_among b.added id) (is_among (numbers grows.rest) id) new ∙ sym (ap not out)
      by false old =
          let here : map.get d id ≡ Some x = sym (ap (λ m. map.get m id) grows.back) ∙ get-without e (numbers grows.rest) id ∙ ap (λ c. cond c None (map.get e id)) old ∙ at in
          ap (λ c. is_among b.added id || c) old ∙ or_none (is_among b.added id) ∙ fits.added id x here
        where
          or_none : (c : Bool) → (c || false) ≡ c
          or_none true = refl
          or_none false = refl

    module _ (triple : Triple) (trip : Trip) (ids : HasIds e triple trip) (terms : (T : set.FinSet term_cmp) → HasExactly d T → HasExactly e (with_terms T triple)) where
      there_more : (id : ℕ) → is_among (numbers more) id ≡ true → IsSome (map.get e id)
      there_more id among = or_cases (is_among b.added id) (is_among (numbers grows.rest) id) (sym (among_more id) ∙ among) _ (old_there id) (grows.there id)

      once_more : AreDistinct (numbers more)
      once_more = subst AreDistinct (sym all_more) (distinct-append b.added (numbers grows.rest) fits.once grows.once apart)

      with_triple : HasExactly e (terms_of (set.insert (set.union G S) triple))
      with_triple = subst (HasExactly e) (sym (terms_of-insert (set.union G S) triple)) (terms (terms_of (set.union G S)) fits.exactly)

      pub graph_has : has H (trip_tuple trip) ≡ true → set.contains G triple ≡ true
      graph_has there =
          ap (λ K. set.contains K triple) (sym grown_graph)
          ∙ ap (set.contains (graph_of e H)) (sym (triple_is e triple trip ids))
          ∙ graph_in e H (trip_tuple trip) there

      -- the graph has the triple already
      pub fits_there : has H (trip_tuple trip) ≡ true → Fits (record { dict = e; tables = t; root = r; max = max }) (record { triples = b.triples; added = numbers more })
      fits_there there =
          let in_w : set.contains (set.union G S) triple ≡ true = set.contains-union triples_total G S triple ∙ or_left (set.contains G triple) (set.contains S triple) (graph_has there) in
          let same : set.insert (set.union G S) triple ≡ set.union (graph_of e H) (graph_of e b.triples) = insert_member (set.union G S) triple in_w ∙ ap (λ K. set.union K S) (sym grown_graph) ∙ ap (set.union (graph_of e H)) (sym grown_staged) in
          record {
            known = known_same d e b.triples fits.known same_B;
            proper = subst AreProper (sym grown_staged) fits.proper;
            new = fits.new;
            exactly = subst (λ K. HasExactly e (terms_of K)) same with_triple;
            added = λ id x at. more_added id x at ∙ ap (λ K. not (set.contains (terms_of K) x)) (sym grown_graph);
            there = there_more;
            once = once_more;
            few = let n = ap set.len grown_graph in let m = ap set.len grown_staged in omega (arith, n, m, fits.few);
          }

      pub staged_graph_is : graph_of e (set.insert b.triples (trip_tuple trip)) ≡ set.insert S triple
      staged_graph_is = graph_of-insert e b.triples (trip_tuple trip) ∙ ap (set.insert (graph_of e b.triples)) (triple_is e triple trip ids) ∙ ap (λ K. set.insert K triple) grown_staged

      -- it is staged
      pub fits_staged : IsProperTriple triple → has H (trip_tuple trip) ≡ false → set.len G + set.len S < most_triples
          → Fits (record { dict = e; tables = t; root = r; max = max }) (record { triples = set.insert b.triples (trip_tuple trip); added = numbers more })
      fits_staged proper absent room =
          let same : set.insert (set.union G S) triple ≡ set.union (graph_of e H) (graph_of e (set.insert b.triples (trip_tuple trip))) = sym (union_insert triples_total exact_triples G S triple) ∙ ap (λ K. set.union K (set.insert S triple)) (sym grown_graph) ∙ ap (set.union (graph_of e H)) (sym staged_graph_is) in
          record {
            known = known_insert e b.triples (trip_tuple trip) (known_same d e b.triples fits.known same_B) (trip_known e triple trip ids);
            proper = subst AreProper (sym staged_graph_is) (proper_insert S triple fits.proper proper);
            new = λ q there. or_cases (eq_by_cmp (slice_cmp nat_cmp) q (trip_tuple trip)) (has b.triples q) (sym (set.contains-insert tuples_total b.triples (trip_tuple trip) q) ∙ there) (has H q ≡ false)
                (λ is. ap (has H) (tied-is tuples_exact q (trip_tuple trip) is) ∙ absent)
                (fits.new q);
            exactly = subst (λ K. HasExactly e (terms_of K)) same with_triple;
            added = λ id x at. more_added id x at ∙ ap (λ K. not (set.contains (terms_of K) x)) (sym grown_graph);
            there = there_more;
            once = once_more;
            few = let n = ap set.len grown_graph in let m = ap set.len staged_graph_is in let k = len-insert_most S triple in omega (arith, n, m, k, room);
          }

-- the same of what contracts see
pub fits_back : (s u : StoreState) (b c : Staging) → u ≡ s → c ≡ b → Fits s b → Fits u c
fits_back s u b c same staged fits = subst (λ x. Fits x c) (sym same) (subst (Fits s) (sym staged) fits)
