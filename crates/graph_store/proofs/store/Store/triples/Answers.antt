use Rattle.std.proofs.Common.{◌∙◌, sym, ap}
use Rattle.std.specs.FinSet as set
use Rattle.trie_context.specs.Roots.{root_set}
use Rattle.graph_image.specs.ImageLaws.{len-graph_of}
use Rattle.graph_store.specs.StoreState.{graph}
use Rattle.graph_store.proofs.RootLemmas.{root_there}
use Rattle.graph_store.proofs.store.Store.triples.Goals as goal

pub of-requires-clause-there : goal.of-requires-clause-there
of-requires-clause-there g c = root_there c.self.inside.ctx c.self.inside.root c.self.invariant.only

pub returns-clause-value : goal.returns-clause-value
returns-clause-value g c =
    let i = c.self.inside in
    c.len.ensures ∙ (λ j. set.len (root_set (c.of.ensures.tables j) (c.of.ensures.root j)))
    ∙ sym (len-graph_of i.dict c.of.ensures.one (root_set i.ctx i.root) c.self.invariant.known)
    ∙ ap (λ s. set.len (graph s)) c.self.view_is
