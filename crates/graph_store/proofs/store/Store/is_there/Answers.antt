use Rattle.std.proofs.Common.{◌≡◌, ◌∙◌, ◌||◌, false, true, refl, sym, ap, subst}
use Rattle.std.specs.FinSet as set
use Rattle.hypertrie_model.specs.Sets.{has}
use Rattle.rdf_term.specs.Seen.{lent_triple}
use Rattle.trie_depth.specs.Tuples.{trip_tuple}
use Rattle.term_dict.specs.Dict.{IsOneToOne}
use Rattle.graph_image.specs.Images.{graph_of, AreKnown}
use Rattle.trie_context.specs.Roots.{root_set}
use Rattle.graph_store.specs.StoreState.{StoreState, graph, triples_of}
use Rattle.graph_store.specs.Staging.{staged_graph, Fits}
use Rattle.graph_store.proofs.TermsLemmas.{not_in_graph, found_triple}
use Rattle.graph_store.proofs.store.Store.is_there.Goals as goal

pub returns-in_default : goal.returns-in_default
returns-in_default g c =
    let i = c.self.inside in
    let t = lent_triple c.args.triple in
    let b = c.args.staged.now in
    let s : StoreState = record { dict = i.dict; tables = i.ctx; root = i.root; max = i.max } in
    let f : Fits s b = subst (λ x. Fits x b) (sym c.self.view_is) c.requires in
    let lacks = c.in_default.ensures.none refl in
    sym (ap (λ x. set.contains (graph x) t || set.contains (staged_graph x b) t) (sym c.self.view_is)
    ∙ (λ j. not_in_graph i.dict (root_set i.ctx i.root) c.self.invariant.known t lacks j || not_in_graph i.dict b.triples f.known t lacks j))

pub returns-then-has : goal.returns-then-has
returns-then-has g c =
    let i = c.self.inside in
    let H = root_set i.ctx i.root in
    let t = lent_triple c.args.triple in
    let S = graph_of i.dict c.staged.inside.trips in
    let in_graph : set.contains (graph_of i.dict H) t ≡ true =
    sym (found_triple i.dict t c.in-Some.trip c.in-Some.ensures.some (subst (λ s. IsOneToOne s.dict) (sym c.self.view_is) c.view.ensures.one) H c.self.invariant.known)
    ∙ sym (c.has.ensures ∙ ap (λ K. has K (trip_tuple c.in-Some.trip)) (c.view.ensures.triples ∙ ap triples_of (sym c.self.view_is)))
    ∙ c.if-has.true in
    c.if-has.true ∙ sym (ap (λ b. b || set.contains S t) in_graph)
    ∙ (λ j. set.contains (graph (c.self.view_is j)) t || set.contains (staged_graph (c.self.view_is j) (c.staged.view_is j)) t)

pub returns-else-has : goal.returns-else-has
returns-else-has g c =
    let i = c.self.inside in
    let H = root_set i.ctx i.root in
    let t = lent_triple c.args.triple in
    let trips = c.staged.inside.trips in
    let S = graph_of i.dict trips in
    let known : AreKnown i.dict trips = subst (λ x. AreKnown x.dict trips) (sym c.self.view_is) (subst (λ b. AreKnown c.args.self.now.dict b.triples) (sym c.staged.view_is) c.requires.known) in
    let not_there : set.contains (graph_of i.dict H) t ≡ false =
    sym (found_triple i.dict t c.in-Some.trip c.in-Some.ensures.some (subst (λ s. IsOneToOne s.dict) (sym c.self.view_is) c.view.ensures.one) H c.self.invariant.known)
    ∙ sym (c.has.ensures ∙ ap (λ K. has K (trip_tuple c.in-Some.trip)) (c.view.ensures.triples ∙ ap triples_of (sym c.self.view_is)))
    ∙ c.if-has.false in
    c.has-else-has.ensures ∙ found_triple i.dict t c.in-Some.trip c.in-Some.ensures.some (subst (λ s. IsOneToOne s.dict) (sym c.self.view_is) c.view.ensures.one) trips known
    ∙ sym (ap (λ b. b || set.contains S t) not_there)
    ∙ (λ j. set.contains (graph (c.self.view_is j)) t || set.contains (staged_graph (c.self.view_is j) (c.staged.view_is j)) t)
