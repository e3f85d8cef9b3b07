use Rattle.std.proofs.Common.{◌≡◌, sym, ◌∙◌, ap, subst}
use Rattle.trie_context.specs.Roots.{root_set}
use Rattle.graph_image.specs.Images.{graph_of, terms_of, HasExactly, without}
use Rattle.graph_store.specs.StoreState.{StoreState, IsSoundStore, graph}
use Rattle.graph_store.specs.Staging.{Staging, numbers, Fits}
use Rattle.graph_store.proofs.StagingLemmas.{before_sound, before_graph, before_settled}
use Rattle.graph_store.proofs.store.Store.abandon.Given as given
use Rattle.graph_store.proofs.store.Store.abandon.Goals as goal

state : (g : given.Over) → goal.After-drop-added g → StoreState
state g c = record { dict = c.self.inside.dict; tables = c.self.inside.ctx; root = c.self.inside.root; max = c.self.inside.max }

staging : (g : given.Over) → goal.After-drop-added g → Staging
staging g c = record { triples = c.staged.inside.trips; added = numbers c.staged.inside.added.items }

fits : (g : given.Over) (c : goal.After-drop-added g) → Fits (state g c) (staging g c)
unfolding state staging
fits g c = subst (λ s. Fits s (staging g c)) (sym c.self.view_is) (subst (Fits c.args.self.now) (sym c.staged.view_is) c.requires)

gone : (g : given.Over) (c : goal.After-drop-added g) → c.remove_all.new.dict ≡ without c.self.inside.dict (numbers c.staged.inside.added.items)
gone g c = c.remove_all.ensures ∙ ap (λ l. without c.self.inside.dict (numbers l)) c.deref.ensures.value

pub invariant_of-self : goal.invariant_of-self
unfolding state staging
invariant_of-self g c =
    let i = c.self.inside in
    subst (λ m. IsSoundStore m i.ctx i.root i.max) (sym (gone g c)) (before_sound i.dict i.ctx i.root i.max (staging g c) c.self.invariant (fits g c))

pub returns-clause-graph : goal.returns-clause-graph
unfolding state staging
returns-clause-graph g c =
    let i = c.self.inside in
    ap (λ m. graph_of m (root_set i.ctx i.root)) (gone g c) ∙ before_graph i.dict i.ctx i.root i.max (staging g c) c.self.invariant (fits g c) ∙ ap graph c.self.view_is

pub returns-clause-settled : goal.returns-clause-settled
unfolding state staging
returns-clause-settled g c =
    let i = c.self.inside in
    subst (λ m. HasExactly m (terms_of (graph_of m (root_set i.ctx i.root)))) (sym (gone g c)) (before_settled i.dict i.ctx i.root i.max (staging g c) c.self.invariant (fits g c))
