use Rattle.std.proofs.Common.{◌≡◌, ◌∙◌, sym, ap, subst, arith}
use Rattle.std.specs.FinSet as set
use Rattle.trie_context.specs.Roots.{root_set}
use Rattle.graph_image.specs.Images.{graph_of, terms_of, HasExactly, without}
use Rattle.graph_image.specs.ImageLaws.{len-graph_of}
use Rattle.graph_store.specs.StoreState.{StoreState, IsSoundStore, graph}
use Rattle.graph_store.specs.Staging.{Staging, numbers, staged_graph, Fits}
use Rattle.graph_store.proofs.RootLemmas.{root_there}
use Rattle.graph_store.proofs.StagingLemmas.{fits_back, len-graph, len-staged, before_sound, before_settled, put_graph, put_sound, put_settled}
use Rattle.graph_store.proofs.store.Store.insert.Goals as goal

pub put_in-requires-clause-few : goal.put_in-requires-clause-few
put_in-requires-clause-few g c =
    let i = c.self.inside in
    let s : StoreState = record { dict = i.dict; tables = i.ctx; root = i.root; max = i.max } in
    let b : Staging = record { triples = c.staged.inside.trips; added = numbers c.staged.inside.added.items } in
    let f : Fits s b = fits_back c.args.self.now s c.args.staged b c.self.view_is c.staged.view_is c.requires in
    omega (arith, len-graph i.dict i.ctx i.root i.max b c.self.invariant f c.is_one_to_one.ensures, len-staged i.dict i.ctx i.root i.max b c.self.invariant f c.is_one_to_one.ensures, f.few)

pub of-requires-clause-there : goal.of-requires-clause-there
of-requires-clause-there g c = root_there c.put_in.new.context c.put_in.new.root c.put_in.ensures.only

pub of-requires-clause-known : goal.of-requires-clause-known
of-requires-clause-known g c =
    let i = c.self.inside in
    let s : StoreState = record { dict = i.dict; tables = i.ctx; root = i.root; max = i.max } in
    let b : Staging = record { triples = c.staged.inside.trips; added = numbers c.staged.inside.added.items } in
    let f : Fits s b = fits_back c.args.self.now s c.args.staged b c.self.view_is c.staged.view_is c.requires in
    (put_sound i.dict i.ctx i.root i.max b c.self.invariant f c.put_in.new.context c.put_in.new.root c.put_in.ensures.only c.in-Ok.ensures.set c.is_one_to_one.ensures).known

pub invariant_of-self : goal.invariant_of-self
invariant_of-self g c =
    let i = c.self.inside in
    let s : StoreState = record { dict = i.dict; tables = i.ctx; root = i.root; max = i.max } in
    let b : Staging = record { triples = c.staged.inside.trips; added = numbers c.staged.inside.added.items } in
    let f : Fits s b = fits_back c.args.self.now s c.args.staged b c.self.view_is c.staged.view_is c.requires in
    put_sound i.dict i.ctx i.root i.max b c.self.invariant f c.put_in.new.context c.put_in.new.root c.put_in.ensures.only c.in-Ok.ensures.set c.is_one_to_one.ensures

pub returns-in-Ok-clause-graph : goal.returns-in-Ok-clause-graph
returns-in-Ok-clause-graph g c =
    let i = c.self.inside in
    let s : StoreState = record { dict = i.dict; tables = i.ctx; root = i.root; max = i.max } in
    let b : Staging = record { triples = c.staged.inside.trips; added = numbers c.staged.inside.added.items } in
    let f : Fits s b = fits_back c.args.self.now s c.args.staged b c.self.view_is c.staged.view_is c.requires in
    put_graph i.dict i.ctx i.root i.max b c.self.invariant f c.put_in.new.context c.put_in.new.root c.put_in.ensures.only c.in-Ok.ensures.set
    ∙ (λ j. set.union (graph (c.self.view_is j)) (staged_graph (c.self.view_is j) (c.staged.view_is j)))

pub returns-in-Ok-clause-changed : goal.returns-in-Ok-clause-changed
returns-in-Ok-clause-changed g c =
    let i = c.self.inside in
    let s : StoreState = record { dict = i.dict; tables = i.ctx; root = i.root; max = i.max } in
    let b : Staging = record { triples = c.staged.inside.trips; added = numbers c.staged.inside.added.items } in
    let f : Fits s b = fits_back c.args.self.now s c.args.staged b c.self.view_is c.staged.view_is c.requires in
    c.in-Ok.ensures.changed ∙ sym (len-staged i.dict i.ctx i.root i.max b c.self.invariant f c.is_one_to_one.ensures)
    ∙ (λ j. set.len (staged_graph (c.self.view_is j) (c.staged.view_is j)))

pub returns-in-Ok-clause-now : goal.returns-in-Ok-clause-now
returns-in-Ok-clause-now g c =
    let i = c.self.inside in
    let s : StoreState = record { dict = i.dict; tables = i.ctx; root = i.root; max = i.max } in
    let b : Staging = record { triples = c.staged.inside.trips; added = numbers c.staged.inside.added.items } in
    let f : Fits s b = fits_back c.args.self.now s c.args.staged b c.self.view_is c.staged.view_is c.requires in
    let u = c.put_in.new.context in
    let q = c.put_in.new.root in
    let sound : IsSoundStore i.dict u q i.max = put_sound i.dict i.ctx i.root i.max b c.self.invariant f u q c.put_in.ensures.only c.in-Ok.ensures.set c.is_one_to_one.ensures in
    c.len.ensures ∙ (λ j. set.len (root_set (c.of.ensures.tables j) (c.of.ensures.root j))) ∙ sym (len-graph_of i.dict c.is_one_to_one.ensures (root_set u q) sound.known)

pub returns-in-Ok-clause-settled : goal.returns-in-Ok-clause-settled
returns-in-Ok-clause-settled g c =
    let i = c.self.inside in
    let s : StoreState = record { dict = i.dict; tables = i.ctx; root = i.root; max = i.max } in
    let b : Staging = record { triples = c.staged.inside.trips; added = numbers c.staged.inside.added.items } in
    let f : Fits s b = fits_back c.args.self.now s c.args.staged b c.self.view_is c.staged.view_is c.requires in
    put_settled i.dict i.ctx i.root i.max b c.self.invariant f c.put_in.new.context c.put_in.new.root c.put_in.ensures.only c.in-Ok.ensures.set

pub returns-in-Ok-clause-ticks : goal.returns-in-Ok-clause-ticks
returns-in-Ok-clause-ticks g c =
    let i = c.self.inside in
    let s : StoreState = record { dict = i.dict; tables = i.ctx; root = i.root; max = i.max } in
    let b : Staging = record { triples = c.staged.inside.trips; added = numbers c.staged.inside.added.items } in
    let f : Fits s b = fits_back c.args.self.now s c.args.staged b c.self.view_is c.staged.view_is c.requires in
    let size : set.len c.staged.inside.trips ≡ set.len (staged_graph c.args.self.now c.args.staged) = sym (len-staged i.dict i.ctx i.root i.max b c.self.invariant f c.is_one_to_one.ensures) ∙ (λ j. set.len (staged_graph (c.self.view_is j) (c.staged.view_is j))) in
    omega (arith, c.put_in.ensures.ticks, size)

pub invariant_of-self-in-Err : goal.invariant_of-self-in-Err
invariant_of-self-in-Err g c =
    let i = c.self.inside in
    let s : StoreState = record { dict = i.dict; tables = i.ctx; root = i.root; max = i.max } in
    let b : Staging = record { triples = c.staged.inside.trips; added = numbers c.staged.inside.added.items } in
    let f : Fits s b = fits_back c.args.self.now s c.args.staged b c.self.view_is c.staged.view_is c.requires in
    let gone = c.remove_all.ensures ∙ ap (λ l. without i.dict (numbers l)) c.deref.ensures.value in
    subst (λ m. IsSoundStore m c.put_in.new.context c.put_in.new.root i.max) (sym gone)
    (subst (λ r. IsSoundStore (without i.dict b.added) c.put_in.new.context r i.max) (sym c.in-Err.ensures.kept.root)
    (subst (λ t. IsSoundStore (without i.dict b.added) t i.root i.max) (sym c.in-Err.ensures.kept.tables) (before_sound i.dict i.ctx i.root i.max b c.self.invariant f)))

pub returns-clause-settled : goal.returns-clause-settled
returns-clause-settled g c =
    let i = c.self.inside in
    let s : StoreState = record { dict = i.dict; tables = i.ctx; root = i.root; max = i.max } in
    let b : Staging = record { triples = c.staged.inside.trips; added = numbers c.staged.inside.added.items } in
    let f : Fits s b = fits_back c.args.self.now s c.args.staged b c.self.view_is c.staged.view_is c.requires in
    let gone = c.remove_all.ensures ∙ ap (λ l. without i.dict (numbers l)) c.deref.ensures.value in
    subst (λ m. HasExactly m (terms_of (graph_of m (root_set c.put_in.new.context c.put_in.new.root)))) (sym gone)
    (subst (λ r. HasExactly (without i.dict b.added) (terms_of (graph_of (without i.dict b.added) (root_set c.put_in.new.context r)))) (sym c.in-Err.ensures.kept.root)
    (subst (λ t. HasExactly (without i.dict b.added) (terms_of (graph_of (without i.dict b.added) (root_set t i.root)))) (sym c.in-Err.ensures.kept.tables) (before_settled i.dict i.ctx i.root i.max b c.self.invariant f)))

pub returns-clause-ticks : goal.returns-clause-ticks
returns-clause-ticks g c =
    let i = c.self.inside in
    let s : StoreState = record { dict = i.dict; tables = i.ctx; root = i.root; max = i.max } in
    let b : Staging = record { triples = c.staged.inside.trips; added = numbers c.staged.inside.added.items } in
    let f : Fits s b = fits_back c.args.self.now s c.args.staged b c.self.view_is c.staged.view_is c.requires in
    let size : set.len c.staged.inside.trips ≡ set.len (staged_graph c.args.self.now c.args.staged) = sym (len-staged i.dict i.ctx i.root i.max b c.self.invariant f c.is_one_to_one.ensures) ∙ (λ j. set.len (staged_graph (c.self.view_is j) (c.staged.view_is j))) in
    omega (arith, c.put_in.ensures.ticks, size)
