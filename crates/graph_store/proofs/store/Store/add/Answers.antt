use Rattle.std.proofs.Common.{◌≡◌, ◌∙◌, ◌+◌, ◌<◌, false, true, refl, sym, ap, subst, arith, if◌then◌else◌}
use Rattle.std.specs.FinSet as set
use Rattle.hypertrie_model.specs.Sets.{has}
use Rattle.rdf_term.specs.Seen.{lent_triple}
use Rattle.trie_depth.specs.Tuples.{trip_tuple}
use Rattle.trie_context.specs.Roots.{root_set}
use Rattle.graph_image.specs.Images.{graph_of}
use Rattle.graph_store.specs.StoreState.{StoreState, graph, most_triples}
use Rattle.graph_store.specs.Staging.{Staging, numbers, staged_graph, Fits, before}
use Rattle.graph_store.proofs.RootLemmas.{root_there}
use Rattle.graph_store.proofs.TermsLemmas.{found_triple}
use Rattle.graph_store.proofs.StagingLemmas.{fits_back, terms_few, grown_graph, grown_staged, grown_sound, same_before, graph_has, fits_there, fits_staged, staged_graph_is}
use Rattle.graph_store.proofs.store.Store.add.Goals as goal

pub intern_triple-requires : goal.intern_triple-requires
intern_triple-requires g c =
    let i = c.self.inside in
    let s : StoreState = record { dict = i.dict; tables = i.ctx; root = i.root; max = i.max } in
    let b : Staging = record { triples = c.staged.inside.trips; added = numbers c.staged.inside.added.items } in
    let f : Fits s b = fits_back c.args.self.now s c.args.staged.now b c.self.view_is c.staged.view_is c.requires.fits in
    let few = terms_few i.dict i.ctx i.root i.max b c.self.invariant f c.is_one_to_one.ensures in
    record { room = omega (arith, few) }

pub of-requires-clause-there : goal.of-requires-clause-there
of-requires-clause-there g c = root_there c.self.inside.ctx c.self.inside.root c.self.invariant.only

pub of-requires-clause-known : goal.of-requires-clause-known
of-requires-clause-known g c =
    let i = c.self.inside in
    let s : StoreState = record { dict = i.dict; tables = i.ctx; root = i.root; max = i.max } in
    let b : Staging = record { triples = c.staged.inside.trips; added = numbers c.staged.inside.added.items } in
    let f : Fits s b = fits_back c.args.self.now s c.args.staged.now b c.self.view_is c.staged.view_is c.requires.fits in
    (grown_sound i.dict i.ctx i.root i.max b c.self.invariant f c.staged.inside.added.items c.intern_triple.new.noted.items refl c.intern_triple.new.dict c.in_ok-trip.ensures.grows).known

pub invariant_of-self-then-has : goal.invariant_of-self-then-has
invariant_of-self-then-has g c =
    let i = c.self.inside in
    let s : StoreState = record { dict = i.dict; tables = i.ctx; root = i.root; max = i.max } in
    let b : Staging = record { triples = c.staged.inside.trips; added = numbers c.staged.inside.added.items } in
    let f : Fits s b = fits_back c.args.self.now s c.args.staged.now b c.self.view_is c.staged.view_is c.requires.fits in
    let noted = c.staged.inside.added.items in
    let e = c.intern_triple.new.dict in
    let more = c.intern_triple.new.noted.items in
    let grows = c.in_ok-trip.ensures.grows in
    grown_sound i.dict i.ctx i.root i.max b c.self.invariant f noted more refl e grows

pub returns-then-has-clause-graph : goal.returns-then-has-clause-graph
returns-then-has-clause-graph g c =
    let i = c.self.inside in
    let s : StoreState = record { dict = i.dict; tables = i.ctx; root = i.root; max = i.max } in
    let b : Staging = record { triples = c.staged.inside.trips; added = numbers c.staged.inside.added.items } in
    let f : Fits s b = fits_back c.args.self.now s c.args.staged.now b c.self.view_is c.staged.view_is c.requires.fits in
    let noted = c.staged.inside.added.items in
    let e = c.intern_triple.new.dict in
    let more = c.intern_triple.new.noted.items in
    let grows = c.in_ok-trip.ensures.grows in
    grown_graph i.dict i.ctx i.root i.max b c.self.invariant f noted more refl e grows ∙ ap graph c.self.view_is

pub returns-then-has-clause-before : goal.returns-then-has-clause-before
returns-then-has-clause-before g c =
    let i = c.self.inside in
    let s : StoreState = record { dict = i.dict; tables = i.ctx; root = i.root; max = i.max } in
    let b : Staging = record { triples = c.staged.inside.trips; added = numbers c.staged.inside.added.items } in
    let f : Fits s b = fits_back c.args.self.now s c.args.staged.now b c.self.view_is c.staged.view_is c.requires.fits in
    let noted = c.staged.inside.added.items in
    let e = c.intern_triple.new.dict in
    let more = c.intern_triple.new.noted.items in
    let grows = c.in_ok-trip.ensures.grows in
    let same : before (record { dict = e; tables = i.ctx; root = i.root; max = i.max }) (record { triples = b.triples; added = numbers more }) ≡ before s b = λ j. record { dict = same_before i.dict i.ctx i.root i.max b c.self.invariant f noted more refl e grows j; tables = i.ctx; root = i.root; max = i.max } in
    same ∙ (λ j. before (c.self.view_is j) (c.staged.view_is j))

pub returns-then-has-clause-fits : goal.returns-then-has-clause-fits
returns-then-has-clause-fits g c =
    let i = c.self.inside in
    let s : StoreState = record { dict = i.dict; tables = i.ctx; root = i.root; max = i.max } in
    let b : Staging = record { triples = c.staged.inside.trips; added = numbers c.staged.inside.added.items } in
    let f : Fits s b = fits_back c.args.self.now s c.args.staged.now b c.self.view_is c.staged.view_is c.requires.fits in
    let noted = c.staged.inside.added.items in
    let e = c.intern_triple.new.dict in
    let more = c.intern_triple.new.noted.items in
    let grows = c.in_ok-trip.ensures.grows in
    let t = lent_triple c.args.triple in
    let there : has (root_set i.ctx i.root) (trip_tuple c.in_ok-trip.trip) ≡ true = sym (c.has.ensures ∙ (λ j. has (root_set (c.of.ensures.tables j) (c.of.ensures.root j)) (trip_tuple c.in_ok-trip.trip))) ∙ c.if-has.true in
    fits_there i.dict i.ctx i.root i.max b c.self.invariant f noted more refl e grows t c.in_ok-trip.trip c.in_ok-trip.ensures.ids c.in_ok-trip.ensures.terms there

pub returns-then-has-clause-staged : goal.returns-then-has-clause-staged
returns-then-has-clause-staged g c =
    let i = c.self.inside in
    let s : StoreState = record { dict = i.dict; tables = i.ctx; root = i.root; max = i.max } in
    let b : Staging = record { triples = c.staged.inside.trips; added = numbers c.staged.inside.added.items } in
    let f : Fits s b = fits_back c.args.self.now s c.args.staged.now b c.self.view_is c.staged.view_is c.requires.fits in
    let noted = c.staged.inside.added.items in
    let e = c.intern_triple.new.dict in
    let more = c.intern_triple.new.noted.items in
    let grows = c.in_ok-trip.ensures.grows in
    let t = lent_triple c.args.triple in
    let there : has (root_set i.ctx i.root) (trip_tuple c.in_ok-trip.trip) ≡ true = sym (c.has.ensures ∙ (λ j. has (root_set (c.of.ensures.tables j) (c.of.ensures.root j)) (trip_tuple c.in_ok-trip.trip))) ∙ c.if-has.true in
    let G = graph_of i.dict (root_set i.ctx i.root) in
    let S = graph_of i.dict b.triples in
    grown_staged i.dict i.ctx i.root i.max b c.self.invariant f noted more refl e grows
    ∙ sym (ap (λ x. if x then S else set.insert S t) (graph_has i.dict i.ctx i.root i.max b c.self.invariant f noted more refl e grows t c.in_ok-trip.trip c.in_ok-trip.ensures.ids c.in_ok-trip.ensures.terms there))
    ∙ (λ j. if set.contains (graph (c.self.view_is j)) t then staged_graph (c.self.view_is j) (c.staged.view_is j) else set.insert (staged_graph (c.self.view_is j) (c.staged.view_is j)) t)

pub invariant_of-self-in_default : goal.invariant_of-self-in_default
invariant_of-self-in_default g c =
    let i = c.self.inside in
    let s : StoreState = record { dict = i.dict; tables = i.ctx; root = i.root; max = i.max } in
    let b : Staging = record { triples = c.staged.inside.trips; added = numbers c.staged.inside.added.items } in
    let f : Fits s b = fits_back c.args.self.now s c.args.staged.now b c.self.view_is c.staged.view_is c.requires.fits in
    let noted = c.staged.inside.added.items in
    let e = c.intern_triple.new.dict in
    let more = c.intern_triple.new.noted.items in
    let grows = c.in_ok-trip.ensures.grows in
    grown_sound i.dict i.ctx i.root i.max b c.self.invariant f noted more refl e grows

pub returns-clause-graph : goal.returns-clause-graph
returns-clause-graph g c =
    let i = c.self.inside in
    let s : StoreState = record { dict = i.dict; tables = i.ctx; root = i.root; max = i.max } in
    let b : Staging = record { triples = c.staged.inside.trips; added = numbers c.staged.inside.added.items } in
    let f : Fits s b = fits_back c.args.self.now s c.args.staged.now b c.self.view_is c.staged.view_is c.requires.fits in
    let noted = c.staged.inside.added.items in
    let e = c.intern_triple.new.dict in
    let more = c.intern_triple.new.noted.items in
    let grows = c.in_ok-trip.ensures.grows in
    grown_graph i.dict i.ctx i.root i.max b c.self.invariant f noted more refl e grows ∙ ap graph c.self.view_is

pub returns-clause-before : goal.returns-clause-before
returns-clause-before g c =
    let i = c.self.inside in
    let s : StoreState = record { dict = i.dict; tables = i.ctx; root = i.root; max = i.max } in
    let b : Staging = record { triples = c.staged.inside.trips; added = numbers c.staged.inside.added.items } in
    let f : Fits s b = fits_back c.args.self.now s c.args.staged.now b c.self.view_is c.staged.view_is c.requires.fits in
    let noted = c.staged.inside.added.items in
    let e = c.intern_triple.new.dict in
    let more = c.intern_triple.new.noted.items in
    let grows = c.in_ok-trip.ensures.grows in
    let same : before (record { dict = e; tables = i.ctx; root = i.root; max = i.max }) (record { triples = c.put.new.self; added = numbers more }) ≡ before s b = λ j. record { dict = same_before i.dict i.ctx i.root i.max b c.self.invariant f noted more refl e grows j; tables = i.ctx; root = i.root; max = i.max } in
    same ∙ (λ j. before (c.self.view_is j) (c.staged.view_is j))

pub returns-clause-fits : goal.returns-clause-fits
returns-clause-fits g c =
    let i = c.self.inside in
    let s : StoreState = record { dict = i.dict; tables = i.ctx; root = i.root; max = i.max } in
    let b : Staging = record { triples = c.staged.inside.trips; added = numbers c.staged.inside.added.items } in
    let f : Fits s b = fits_back c.args.self.now s c.args.staged.now b c.self.view_is c.staged.view_is c.requires.fits in
    let noted = c.staged.inside.added.items in
    let e = c.intern_triple.new.dict in
    let more = c.intern_triple.new.noted.items in
    let grows = c.in_ok-trip.ensures.grows in
    let t = lent_triple c.args.triple in
    let absent : has (root_set i.ctx i.root) (trip_tuple c.in_ok-trip.trip) ≡ false = sym (c.has.ensures ∙ (λ j. has (root_set (c.of.ensures.tables j) (c.of.ensures.root j)) (trip_tuple c.in_ok-trip.trip))) ∙ c.if-has.false in
    let room : set.len (graph s) + set.len (staged_graph s b) < most_triples =
    subst (λ x. set.len (graph x) + set.len (staged_graph x b) < most_triples) (sym c.self.view_is) (subst (λ y. set.len (graph c.args.self.now) + set.len (staged_graph c.args.self.now y) < most_triples) (sym c.staged.view_is) c.requires.room) in
    subst (λ T. Fits (record { dict = e; tables = i.ctx; root = i.root; max = i.max }) (record { triples = T; added = numbers more })) (sym c.in_default.ensures.ok)
    (fits_staged i.dict i.ctx i.root i.max b c.self.invariant f noted more refl e grows t c.in_ok-trip.trip c.in_ok-trip.ensures.ids c.in_ok-trip.ensures.terms c.requires.proper absent room)

pub returns-clause-staged : goal.returns-clause-staged
returns-clause-staged g c =
    let i = c.self.inside in
    let s : StoreState = record { dict = i.dict; tables = i.ctx; root = i.root; max = i.max } in
    let b : Staging = record { triples = c.staged.inside.trips; added = numbers c.staged.inside.added.items } in
    let f : Fits s b = fits_back c.args.self.now s c.args.staged.now b c.self.view_is c.staged.view_is c.requires.fits in
    let noted = c.staged.inside.added.items in
    let e = c.intern_triple.new.dict in
    let more = c.intern_triple.new.noted.items in
    let grows = c.in_ok-trip.ensures.grows in
    let t = lent_triple c.args.triple in
    let absent : has (root_set i.ctx i.root) (trip_tuple c.in_ok-trip.trip) ≡ false = sym (c.has.ensures ∙ (λ j. has (root_set (c.of.ensures.tables j) (c.of.ensures.root j)) (trip_tuple c.in_ok-trip.trip))) ∙ c.if-has.false in
    let G = graph_of i.dict (root_set i.ctx i.root) in
    let S = graph_of i.dict b.triples in
    let not_there : set.contains G t ≡ false =
    ap (λ K. set.contains K t) (sym (grown_graph i.dict i.ctx i.root i.max b c.self.invariant f noted more refl e grows))
    ∙ sym (found_triple e t c.in_ok-trip.trip c.in_ok-trip.ensures.ids c.of.ensures.one (root_set i.ctx i.root) (grown_sound i.dict i.ctx i.root i.max b c.self.invariant f noted more refl e grows).known) ∙ absent in
    ap (graph_of e) c.in_default.ensures.ok
    ∙ staged_graph_is i.dict i.ctx i.root i.max b c.self.invariant f noted more refl e grows t c.in_ok-trip.trip c.in_ok-trip.ensures.ids c.in_ok-trip.ensures.terms
    ∙ sym (ap (λ x. if x then S else set.insert S t) not_there)
    ∙ (λ j. if set.contains (graph (c.self.view_is j)) t then staged_graph (c.self.view_is j) (c.staged.view_is j) else set.insert (staged_graph (c.self.view_is j) (c.staged.view_is j)) t)
