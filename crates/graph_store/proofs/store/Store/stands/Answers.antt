use Rattle.std.proofs.Common.{◌∙◌, sym, ap, subst, arith}
use Rattle.std.specs.FinSet as set
use Rattle.trie_context.specs.Roots.{root_set}
use Rattle.graph_image.specs.ImageLaws.{len-graph_of}
use Rattle.graph_store.specs.StoreState.{graph}
use Rattle.graph_store.specs.Stands.{Stands}
use Rattle.graph_store.proofs.RootLemmas.{root_there}
use Rattle.graph_store.proofs.StandsLemmas.{stands as stands_for}
use Rattle.graph_store.proofs.store.Store.stands.Goals as goal

pub of-graph-requires-clause-there : goal.of-graph-requires-clause-there
of-graph-requires-clause-there g c = root_there c.self.inside.ctx c.self.inside.root c.self.invariant.only

pub returns-clause-few : goal.returns-clause-few
returns-clause-few g c =
    let i = c.self.inside in
    let same = ap (λ s. set.len (graph s)) c.self.view_is in
    omega (arith, c.self.invariant.few, len-graph_of i.dict c.of-graph.ensures.one (root_set i.ctx i.root) c.self.invariant.known, same)

pub returns-clause-stands : goal.returns-clause-stands
returns-clause-stands g c =
    let i = c.self.inside in
    subst (Stands g.M.Mix.mixed) c.self.view_is (stands_for g.M.Mix.mixed (record { dict = i.dict; tables = i.ctx; root = i.root; max = i.max }) c.of-graph.ensures.kept c.self.invariant c.of-graph.ensures.one)
