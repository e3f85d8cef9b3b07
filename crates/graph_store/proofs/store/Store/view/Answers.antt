use Rattle.std.proofs.Common.{◌∙◌, ap, subst}
use Rattle.trie_context.specs.Roots.{root_set}
use Rattle.trie_context.specs.RootShape.{root_shape}
use Rattle.trie_context.specs.Shape.{HasShape}
use Rattle.term_dict.specs.Dict.{IsOneToOne}
use Rattle.graph_image.specs.Images.{AreKnown}
use Rattle.graph_store.specs.StoreState.{triples_of}
use Rattle.graph_store.proofs.RootLemmas.{root_there}
use Rattle.graph_store.proofs.store.Store.view.Goals as goal

pub of-requires-clause-there : goal.of-requires-clause-there
of-requires-clause-there g c = root_there c.self.inside.ctx c.self.inside.root c.self.invariant.only

pub returns-clause-triples : goal.returns-clause-triples
returns-clause-triples g c = (λ j. root_set (c.of.ensures.tables j) (c.of.ensures.root j)) ∙ ap triples_of c.self.view_is

pub returns-clause-one : goal.returns-clause-one
returns-clause-one g c = subst (λ s. IsOneToOne s.dict) c.self.view_is c.of.ensures.one

pub returns-clause-known : goal.returns-clause-known
returns-clause-known g c = subst (λ s. AreKnown s.dict (triples_of s)) c.self.view_is c.self.invariant.known

pub returns-clause-shape : goal.returns-clause-shape
returns-clause-shape g c =
    let i = c.self.inside in
    subst (λ s. HasShape s.tables (triples_of s)) c.self.view_is (root_shape g.M.Mix.mixed i.ctx c.of.ensures.kept i.root c.self.invariant.only)
