use Rattle.std.proofs.Common.{◌≡◌, ◌∙◌, ℕ, true, false, length, sym, ap, subst, arith, rules}
use Rattle.std.specs.FinSet as set
use Rattle.hypertrie_model.specs.IdSets.{IdSet}
use Rattle.hypertrie_model.specs.Changes.{IsChange}
use Rattle.trie_depth.specs.Tuples.{trip_tuple}
use Rattle.trie_context.specs.Kept.{AreKept}
use Rattle.trie_context.specs.Roots.{root_set}
use Rattle.trie_change.specs.Batches.{set_of_entries}
use Rattle.trie_view.specs.Places.{IsRootThere}
use Rattle.trie_view.specs.Subs.{sub_set}
use Rattle.graph_view.specs.Read.{set_in}
use Rattle.graph_image.specs.Images.{graph_of, terms_of, HasExactly, is_among, IsUsed}
use Rattle.graph_image.specs.ImageLaws.{len-graph_of, known_difference}
use Rattle.graph_store.specs.StoreState.{graph, triples_of}
use Rattle.graph_store.specs.Staging.{numbers, marked_graph}
use Rattle.graph_store.specs.Forgotten.{Forgets}
use Rattle.graph_store.proofs.RootLemmas.{root_there, operand_set}
use Rattle.graph_store.proofs.ForgetLemmas.{marked_known, rest_graph, deleted_graph, deleted_settled, deleted_sound}
use Rattle.graph_store.proofs.store.Store.delete.Goals as goal

pub returns-in_err-take_out-clause-ticks : goal.returns-in_err-take_out-clause-ticks
returns-in_err-take_out-clause-ticks g c =
    let i = c.self.inside in
    let B : IdSet = c.taken.inside.trips in
    let settled : HasExactly i.dict (terms_of (graph_of i.dict (root_set i.ctx i.root))) = subst (λ s. HasExactly s.dict (terms_of (graph s))) (sym c.self.view_is) c.requires.settled in
    let there : IsChange false (root_set i.ctx i.root) B = subst (λ s. IsChange false (triples_of s) B) (sym c.self.view_is) (subst (λ T. IsChange false (triples_of c.args.self.now) T) (sym c.taken.view_is) c.requires.there) in
    let marked : set.len (marked_graph c.args.self.now c.args.taken) ≡ set.len B = sym (λ j. set.len (marked_graph (c.self.view_is j) (c.taken.view_is j))) ∙ len-graph_of i.dict c.is_one_to_one.ensures B (marked_known i.dict i.ctx i.root i.max B c.self.invariant c.is_one_to_one.ensures settled there) in
    let batch = ap set.len (ap (set_of_entries trip_tuple) c.deref-2.ensures.value ∙ c.in_ok-batch.ensures.set) in
    omega (arith, c.take_out.ensures.ticks, marked, batch)

pub of-left-requires-clause-kept : goal.of-left-requires-clause-kept
of-left-requires-clause-kept g c = ∣ (g.M.Mix.mixed, subst (AreKept g.M.Mix.mixed) (sym c.tables.ensures.same) c.tables.ensures.kept) ∣₁

pub of-left-requires-clause-there : goal.of-left-requires-clause-there
of-left-requires-clause-there g c = subst (λ t. IsRootThere t c.take_out.new.root) (sym c.tables.ensures.same) (root_there c.take_out.new.context c.take_out.new.root c.take_out.ensures.only)

pub of-requires-clause-there : goal.of-requires-clause-there
of-requires-clause-there g c = root_there c.take_out.new.context c.take_out.new.root c.take_out.ensures.only

pub of-requires-clause-known : goal.of-requires-clause-known
of-requires-clause-known g c =
    let i = c.self.inside in
    let B : IdSet = c.taken.inside.trips in
    let settled : HasExactly i.dict (terms_of (graph_of i.dict (root_set i.ctx i.root))) = subst (λ s. HasExactly s.dict (terms_of (graph s))) (sym c.self.view_is) c.requires.settled in
    let there : IsChange false (root_set i.ctx i.root) B = subst (λ s. IsChange false (triples_of s) B) (sym c.self.view_is) (subst (λ T. IsChange false (triples_of c.args.self.now) T) (sym c.taken.view_is) c.requires.there) in
    let ids = numbers c.in_ok-ids.ids.items in
    let u = c.take_out.new.context in
    let q = c.take_out.new.root in
    let new = c.forget.new.dict in
    let whole : set_of_entries trip_tuple c.deref.result.now ≡ B = ap (set_of_entries trip_tuple) c.deref.ensures.value ∙ c.in_ok-batch.ensures.set in
    let all : (id : ℕ) → IsUsed B id → is_among ids id ≡ true = λ id used. c.in_ok-ids.ensures.used id (subst (λ T. IsUsed T id) (sym whole) used) in
    let left : root_set u q ≡ set.difference (root_set i.ctx i.root) B = c.in_ok-take_out.ensures.set ∙ ap (set.difference (root_set i.ctx i.root)) (ap (set_of_entries trip_tuple) c.deref-2.ensures.value ∙ c.in_ok-batch.ensures.set) in
    let forgets : Forgets i.dict new ids (IsUsed (set.difference (root_set i.ctx i.root) B)) =
    subst (λ K. Forgets i.dict new ids (IsUsed K)) (operand_set c.tables.result.now q c.of-left.result c.of-left.ensures.none c.of-left.ensures.set ∙ ap (λ t. root_set t q) c.tables.ensures.same ∙ left)
    (subst (λ l. Forgets i.dict new (numbers l) (IsUsed (set_in sub_set c.of-left.result))) c.deref-3.ensures.value c.forget.ensures) in
    (deleted_sound i.dict i.ctx i.root i.max B c.self.invariant c.is_one_to_one.ensures settled there ids all new forgets u q c.take_out.ensures.only left).known

pub invariant_of-self-2 : goal.invariant_of-self-2
invariant_of-self-2 g c =
    let i = c.self.inside in
    let B : IdSet = c.taken.inside.trips in
    let settled : HasExactly i.dict (terms_of (graph_of i.dict (root_set i.ctx i.root))) = subst (λ s. HasExactly s.dict (terms_of (graph s))) (sym c.self.view_is) c.requires.settled in
    let there : IsChange false (root_set i.ctx i.root) B = subst (λ s. IsChange false (triples_of s) B) (sym c.self.view_is) (subst (λ T. IsChange false (triples_of c.args.self.now) T) (sym c.taken.view_is) c.requires.there) in
    let ids = numbers c.in_ok-ids.ids.items in
    let u = c.take_out.new.context in
    let q = c.take_out.new.root in
    let new = c.forget.new.dict in
    let whole : set_of_entries trip_tuple c.deref.result.now ≡ B = ap (set_of_entries trip_tuple) c.deref.ensures.value ∙ c.in_ok-batch.ensures.set in
    let all : (id : ℕ) → IsUsed B id → is_among ids id ≡ true = λ id used. c.in_ok-ids.ensures.used id (subst (λ T. IsUsed T id) (sym whole) used) in
    let left : root_set u q ≡ set.difference (root_set i.ctx i.root) B = c.in_ok-take_out.ensures.set ∙ ap (set.difference (root_set i.ctx i.root)) (ap (set_of_entries trip_tuple) c.deref-2.ensures.value ∙ c.in_ok-batch.ensures.set) in
    let forgets : Forgets i.dict new ids (IsUsed (set.difference (root_set i.ctx i.root) B)) =
    subst (λ K. Forgets i.dict new ids (IsUsed K)) (operand_set c.tables.result.now q c.of-left.result c.of-left.ensures.none c.of-left.ensures.set ∙ ap (λ t. root_set t q) c.tables.ensures.same ∙ left)
    (subst (λ l. Forgets i.dict new (numbers l) (IsUsed (set_in sub_set c.of-left.result))) c.deref-3.ensures.value c.forget.ensures) in
    deleted_sound i.dict i.ctx i.root i.max B c.self.invariant c.is_one_to_one.ensures settled there ids all new forgets u q c.take_out.ensures.only left

pub returns-clause-graph : goal.returns-clause-graph
returns-clause-graph g c =
    let i = c.self.inside in
    let B : IdSet = c.taken.inside.trips in
    let settled : HasExactly i.dict (terms_of (graph_of i.dict (root_set i.ctx i.root))) = subst (λ s. HasExactly s.dict (terms_of (graph s))) (sym c.self.view_is) c.requires.settled in
    let there : IsChange false (root_set i.ctx i.root) B = subst (λ s. IsChange false (triples_of s) B) (sym c.self.view_is) (subst (λ T. IsChange false (triples_of c.args.self.now) T) (sym c.taken.view_is) c.requires.there) in
    let ids = numbers c.in_ok-ids.ids.items in
    let u = c.take_out.new.context in
    let q = c.take_out.new.root in
    let new = c.forget.new.dict in
    let whole : set_of_entries trip_tuple c.deref.result.now ≡ B = ap (set_of_entries trip_tuple) c.deref.ensures.value ∙ c.in_ok-batch.ensures.set in
    let all : (id : ℕ) → IsUsed B id → is_among ids id ≡ true = λ id used. c.in_ok-ids.ensures.used id (subst (λ T. IsUsed T id) (sym whole) used) in
    let left : root_set u q ≡ set.difference (root_set i.ctx i.root) B = c.in_ok-take_out.ensures.set ∙ ap (set.difference (root_set i.ctx i.root)) (ap (set_of_entries trip_tuple) c.deref-2.ensures.value ∙ c.in_ok-batch.ensures.set) in
    let forgets : Forgets i.dict new ids (IsUsed (set.difference (root_set i.ctx i.root) B)) =
    subst (λ K. Forgets i.dict new ids (IsUsed K)) (operand_set c.tables.result.now q c.of-left.result c.of-left.ensures.none c.of-left.ensures.set ∙ ap (λ t. root_set t q) c.tables.ensures.same ∙ left)
    (subst (λ l. Forgets i.dict new (numbers l) (IsUsed (set_in sub_set c.of-left.result))) c.deref-3.ensures.value c.forget.ensures) in
    deleted_graph i.dict i.ctx i.root i.max B c.self.invariant c.is_one_to_one.ensures settled there ids all new forgets u q c.take_out.ensures.only left
    ∙ (λ j. set.difference (graph (c.self.view_is j)) (marked_graph (c.self.view_is j) (c.taken.view_is j)))

pub returns-clause-changed : goal.returns-clause-changed
returns-clause-changed g c =
    let i = c.self.inside in
    let B : IdSet = c.taken.inside.trips in
    let settled : HasExactly i.dict (terms_of (graph_of i.dict (root_set i.ctx i.root))) = subst (λ s. HasExactly s.dict (terms_of (graph s))) (sym c.self.view_is) c.requires.settled in
    let there : IsChange false (root_set i.ctx i.root) B = subst (λ s. IsChange false (triples_of s) B) (sym c.self.view_is) (subst (λ T. IsChange false (triples_of c.args.self.now) T) (sym c.taken.view_is) c.requires.there) in
    let marked : set.len (marked_graph c.args.self.now c.args.taken) ≡ set.len B = sym (λ j. set.len (marked_graph (c.self.view_is j) (c.taken.view_is j))) ∙ len-graph_of i.dict c.is_one_to_one.ensures B (marked_known i.dict i.ctx i.root i.max B c.self.invariant c.is_one_to_one.ensures settled there) in
    let items : c.len.result ≡ length c.in_ok-batch.batch.items = search rules in
    items ∙ sym c.in_ok-batch.ensures.once ∙ ap set.len c.in_ok-batch.ensures.set ∙ sym marked

pub returns-clause-now : goal.returns-clause-now
returns-clause-now g c =
    let i = c.self.inside in
    let B : IdSet = c.taken.inside.trips in
    let settled : HasExactly i.dict (terms_of (graph_of i.dict (root_set i.ctx i.root))) = subst (λ s. HasExactly s.dict (terms_of (graph s))) (sym c.self.view_is) c.requires.settled in
    let there : IsChange false (root_set i.ctx i.root) B = subst (λ s. IsChange false (triples_of s) B) (sym c.self.view_is) (subst (λ T. IsChange false (triples_of c.args.self.now) T) (sym c.taken.view_is) c.requires.there) in
    let ids = numbers c.in_ok-ids.ids.items in
    let u = c.take_out.new.context in
    let q = c.take_out.new.root in
    let new = c.forget.new.dict in
    let whole : set_of_entries trip_tuple c.deref.result.now ≡ B = ap (set_of_entries trip_tuple) c.deref.ensures.value ∙ c.in_ok-batch.ensures.set in
    let all : (id : ℕ) → IsUsed B id → is_among ids id ≡ true = λ id used. c.in_ok-ids.ensures.used id (subst (λ T. IsUsed T id) (sym whole) used) in
    let left : root_set u q ≡ set.difference (root_set i.ctx i.root) B = c.in_ok-take_out.ensures.set ∙ ap (set.difference (root_set i.ctx i.root)) (ap (set_of_entries trip_tuple) c.deref-2.ensures.value ∙ c.in_ok-batch.ensures.set) in
    let forgets : Forgets i.dict new ids (IsUsed (set.difference (root_set i.ctx i.root) B)) =
    subst (λ K. Forgets i.dict new ids (IsUsed K)) (operand_set c.tables.result.now q c.of-left.result c.of-left.ensures.none c.of-left.ensures.set ∙ ap (λ t. root_set t q) c.tables.ensures.same ∙ left)
    (subst (λ l. Forgets i.dict new (numbers l) (IsUsed (set_in sub_set c.of-left.result))) c.deref-3.ensures.value c.forget.ensures) in
    c.len-2.ensures ∙ (λ j. set.len (root_set (c.of.ensures.tables j) (c.of.ensures.root j))) ∙ ap set.len left
    ∙ sym (len-graph_of i.dict c.is_one_to_one.ensures (set.difference (root_set i.ctx i.root) B) (known_difference i.dict (root_set i.ctx i.root) B c.self.invariant.known))
    ∙ ap set.len (rest_graph i.dict i.ctx i.root i.max B c.self.invariant c.is_one_to_one.ensures settled there)
    ∙ sym (ap set.len (deleted_graph i.dict i.ctx i.root i.max B c.self.invariant c.is_one_to_one.ensures settled there ids all new forgets u q c.take_out.ensures.only left))

pub returns-clause-settled : goal.returns-clause-settled
returns-clause-settled g c =
    let i = c.self.inside in
    let B : IdSet = c.taken.inside.trips in
    let settled : HasExactly i.dict (terms_of (graph_of i.dict (root_set i.ctx i.root))) = subst (λ s. HasExactly s.dict (terms_of (graph s))) (sym c.self.view_is) c.requires.settled in
    let there : IsChange false (root_set i.ctx i.root) B = subst (λ s. IsChange false (triples_of s) B) (sym c.self.view_is) (subst (λ T. IsChange false (triples_of c.args.self.now) T) (sym c.taken.view_is) c.requires.there) in
    let ids = numbers c.in_ok-ids.ids.items in
    let u = c.take_out.new.context in
    let q = c.take_out.new.root in
    let new = c.forget.new.dict in
    let whole : set_of_entries trip_tuple c.deref.result.now ≡ B = ap (set_of_entries trip_tuple) c.deref.ensures.value ∙ c.in_ok-batch.ensures.set in
    let all : (id : ℕ) → IsUsed B id → is_among ids id ≡ true = λ id used. c.in_ok-ids.ensures.used id (subst (λ T. IsUsed T id) (sym whole) used) in
    let left : root_set u q ≡ set.difference (root_set i.ctx i.root) B = c.in_ok-take_out.ensures.set ∙ ap (set.difference (root_set i.ctx i.root)) (ap (set_of_entries trip_tuple) c.deref-2.ensures.value ∙ c.in_ok-batch.ensures.set) in
    let forgets : Forgets i.dict new ids (IsUsed (set.difference (root_set i.ctx i.root) B)) =
    subst (λ K. Forgets i.dict new ids (IsUsed K)) (operand_set c.tables.result.now q c.of-left.result c.of-left.ensures.none c.of-left.ensures.set ∙ ap (λ t. root_set t q) c.tables.ensures.same ∙ left)
    (subst (λ l. Forgets i.dict new (numbers l) (IsUsed (set_in sub_set c.of-left.result))) c.deref-3.ensures.value c.forget.ensures) in
    deleted_settled i.dict i.ctx i.root i.max B c.self.invariant c.is_one_to_one.ensures settled there ids all new forgets u q c.take_out.ensures.only left

pub returns-clause-ticks : goal.returns-clause-ticks
returns-clause-ticks g c =
    let i = c.self.inside in
    let B : IdSet = c.taken.inside.trips in
    let settled : HasExactly i.dict (terms_of (graph_of i.dict (root_set i.ctx i.root))) = subst (λ s. HasExactly s.dict (terms_of (graph s))) (sym c.self.view_is) c.requires.settled in
    let there : IsChange false (root_set i.ctx i.root) B = subst (λ s. IsChange false (triples_of s) B) (sym c.self.view_is) (subst (λ T. IsChange false (triples_of c.args.self.now) T) (sym c.taken.view_is) c.requires.there) in
    let marked : set.len (marked_graph c.args.self.now c.args.taken) ≡ set.len B = sym (λ j. set.len (marked_graph (c.self.view_is j) (c.taken.view_is j))) ∙ len-graph_of i.dict c.is_one_to_one.ensures B (marked_known i.dict i.ctx i.root i.max B c.self.invariant c.is_one_to_one.ensures settled there) in
    let batch = ap set.len (ap (set_of_entries trip_tuple) c.deref-2.ensures.value ∙ c.in_ok-batch.ensures.set) in
    omega (arith, c.take_out.ensures.ticks, marked, batch)
