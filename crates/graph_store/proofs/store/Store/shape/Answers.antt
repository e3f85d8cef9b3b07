use Rattle.std.proofs.Common.{◌∙◌, ap, sym, subst}
use Rattle.std.proofs.lemmas.Result.{IfOk-weaker}
use Rattle.trie_context.specs.Shape.{HasShape}
use Rattle.graph_image.specs.Images.{graph_of, AreKnown}
use Rattle.graph_shape.specs.GraphShapes.{shape_lines}
use Rattle.graph_store.specs.StoreState.{triples_of}
use Rattle.graph_store.proofs.store.Store.shape.Goals as goal

pub shape_lines-requires : goal.shape_lines-requires
shape_lines-requires g c =
    let s = c.args.self.now in
    record { shape = (triples_of s, subst (λ t. HasShape t (triples_of s)) (sym c.view.ensures.tables) c.view.ensures.shape, subst (λ terms. AreKnown terms (triples_of s)) (sym c.view.ensures.terms) c.view.ensures.known) }

pub returns : goal.returns
returns g c =
    let s = c.args.self.now in
    IfOk-weaker c.shape_lines.result _ _ (λ lines is.
    is (triples_of s) (subst (λ t. HasShape t (triples_of s)) (sym c.view.ensures.tables) c.view.ensures.shape) (subst (λ terms. AreKnown terms (triples_of s)) (sym c.view.ensures.terms) c.view.ensures.known)
    ∙ ap (λ terms. shape_lines (graph_of terms (triples_of s))) c.view.ensures.terms) c.shape_lines.ensures
