use Rattle.std.proofs.Common.{◌≡◌, ◌∙◌, false, true, refl, sym, ap, subst, if◌then◌else◌}
use Rattle.std.specs.Ordering.{eq_by_cmp, nat_cmp}
use Rattle.std.specs.Cmp.Lexicographic.{slice_cmp}
use Rattle.std.specs.FinSet as set
use Rattle.hypertrie_model.specs.Sets.{has}
use Rattle.hypertrie_model.specs.SetLaws.{or_cases, tied-is}
use Rattle.rdf_term.specs.Seen.{lent_triple}
use Rattle.trie_depth.specs.Tuples.{trip_tuple}
use Rattle.trie_context.specs.Roots.{root_set}
use Rattle.term_dict.specs.Dict.{IsOneToOne}
use Rattle.graph_image.specs.Images.{graph_of}
use Rattle.graph_image.specs.ImageLaws.{tuples_total, tuples_exact, graph_of-insert}
use Rattle.graph_store.specs.StoreState.{graph, triples_of}
use Rattle.graph_store.specs.Staging.{marked_graph}
use Rattle.graph_store.proofs.TermsLemmas.{not_in_graph, found_triple, triple_is}
use Rattle.graph_store.proofs.store.Store.mark.Goals as goal

pub returns-in_default-clause-marked : goal.returns-in_default-clause-marked
returns-in_default-clause-marked g c =
    let i = c.self.inside in
    let t = lent_triple c.args.triple in
    let T = marked_graph c.args.self.now c.args.taken.now in
    let out : set.contains (graph c.args.self.now) t ≡ false = ap (λ s. set.contains (graph s) t) (sym c.self.view_is) ∙ not_in_graph i.dict (root_set i.ctx i.root) c.self.invariant.known t (c.in_default.ensures.none refl) in
    sym (ap (λ x. if x then set.insert T t else T) out)

pub returns-in_ok-put-clause-marked : goal.returns-in_ok-put-clause-marked
returns-in_ok-put-clause-marked g c =
    let i = c.self.inside in
    let H = root_set i.ctx i.root in
    let t = lent_triple c.args.triple in
    let T = marked_graph c.args.self.now c.args.taken.now in
    let there : set.contains (graph c.args.self.now) t ≡ true =
    ap (λ s. set.contains (graph s) t) (sym c.self.view_is)
    ∙ sym (found_triple i.dict t c.in-Some.trip c.in-Some.ensures.some (subst (λ s. IsOneToOne s.dict) (sym c.self.view_is) c.view.ensures.one) H c.self.invariant.known)
    ∙ sym (c.has.ensures ∙ ap (λ K. has K (trip_tuple c.in-Some.trip)) (c.view.ensures.triples ∙ ap triples_of (sym c.self.view_is)))
    ∙ c.if-has.true in
    ap (λ s. graph_of s.dict c.put.new.self) (sym c.self.view_is)
    ∙ ap (graph_of i.dict) c.in_ok-put.ensures.ok
    ∙ graph_of-insert i.dict c.taken.inside.trips (trip_tuple c.in-Some.trip)
    ∙ ap (set.insert (graph_of i.dict c.taken.inside.trips)) (triple_is i.dict t c.in-Some.trip c.in-Some.ensures.some)
    ∙ (λ j. set.insert (marked_graph (c.self.view_is j) (c.taken.view_is j)) t)
    ∙ sym (ap (λ x. if x then set.insert T t else T) there)

pub returns-in_ok-put-clause-there : goal.returns-in_ok-put-clause-there
returns-in_ok-put-clause-there g c = λ there q e.
    let i = c.self.inside in
    let u = trip_tuple c.in-Some.trip in
    or_cases (eq_by_cmp (slice_cmp nat_cmp) q u) (has c.taken.inside.trips q) (sym (set.contains-insert tuples_total c.taken.inside.trips u q) ∙ ap (λ T. has T q) (sym c.in_ok-put.ensures.ok) ∙ e) _
    (λ is. ap (has (triples_of c.args.self.now)) (tied-is tuples_exact q u is)
    ∙ ap (λ s. has (triples_of s) u) (sym c.self.view_is)
    ∙ sym (c.has.ensures ∙ ap (λ K. has K u) (c.view.ensures.triples ∙ ap triples_of (sym c.self.view_is)))
    ∙ c.if-has.true)
    (λ old. there q (ap (λ T. has T q) (sym c.taken.view_is) ∙ old))

pub returns-else-has-clause-marked : goal.returns-else-has-clause-marked
returns-else-has-clause-marked g c =
    let i = c.self.inside in
    let t = lent_triple c.args.triple in
    let T = marked_graph c.args.self.now c.args.taken.now in
    let out : set.contains (graph c.args.self.now) t ≡ false =
    ap (λ s. set.contains (graph s) t) (sym c.self.view_is)
    ∙ sym (found_triple i.dict t c.in-Some.trip c.in-Some.ensures.some (subst (λ s. IsOneToOne s.dict) (sym c.self.view_is) c.view.ensures.one) (root_set i.ctx i.root) c.self.invariant.known)
    ∙ sym (c.has.ensures ∙ ap (λ K. has K (trip_tuple c.in-Some.trip)) (c.view.ensures.triples ∙ ap triples_of (sym c.self.view_is)))
    ∙ c.if-has.false in
    sym (ap (λ x. if x then set.insert T t else T) out)
