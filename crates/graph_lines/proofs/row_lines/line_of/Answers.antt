use Rattle.std.proofs.Common.{◌≡◌, ◌++◌, ◌∙◌, ap, codes, decimal}
use Rattle.rdf_model.specs.Terms.{Text}
use Rattle.graph_shape.specs.GraphShapes.{depth_name, tabbed}
use Rattle.rdf_model.specs.SortLaws.{sorted_is}
use Rattle.graph_lines.proofs.row_lines.line_of.Goals as goal

pub returns : goal.returns
returns c =
    let sorted = sorted_is c.args.members.items c.sort_unstable.new.self.items c.sort_unstable.ensures.permutation c.sort_unstable.ensures.sorted in
    let head : c.push.new.self ≡ depth_name c.args.depth ++ codes "\t" = c.in_ok-push.ensures.ok ∙ ap (λ (w : Text). w ++ codes "\t") (c.in_ok-line.ensures ∙ c.name_of.ensures) in
    let counted : c.push-2.new.self ≡ depth_name c.args.depth ++ codes "\t" ++ decimal c.args.count = c.in_ok-push-2.ensures.ok ∙ (λ i. head i ++ c.format.ensures.text i) in
    c.in_ok-push_tabbed.ensures ∙ (λ i. counted i ++ tabbed ((c.deref.ensures.value ∙ sorted) i))
