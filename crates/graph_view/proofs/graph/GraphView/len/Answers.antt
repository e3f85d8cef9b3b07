use Rattle.std.proofs.Common.{◌≡◌, ◌∙◌, sym, ap, subst, IsSome, IfSome}
use Rattle.std.specs.Ordering.{nat_cmp}
use Rattle.std.specs.Cmp.{nat_cmp_total}
use Rattle.std.specs.Cmp.Lexicographic.{slice_cmp}
use Rattle.std.specs.FinMap.{nat_cmp-IsAntisymmetric}
use Rattle.std.specs.FinSet as set
use Rattle.hypertrie_model.specs.SetLaws.{len-single}
use Rattle.trie_depth.specs.Tuples.{trip_tuple}
use Rattle.trie_context.specs.Roots.{root_set}
use Rattle.trie_context.specs.Rows.{row_of}
use Rattle.trie_view.specs.Places.{IsRootThere}
use Rattle.graph_view.specs.ReadLaws.{root_known}
use Rattle.graph_view.proofs.SizeLemmas.{size_there}
use Rattle.graph_view.proofs.graph.GraphView.len.Goals as goal

pub returns-in-Empty : goal.returns-in-Empty
returns-in-Empty c = sym (ap (λ r. set.len (root_set c.args.self.all.tables.now r)) c.in-Empty.is ∙ set.len-empty (slice_cmp nat_cmp))

pub returns-in-One : goal.returns-in-One
returns-in-One c = sym (ap (λ r. set.len (root_set c.args.self.all.tables.now r)) c.in-One.is ∙ len-single nat_cmp_total nat_cmp-IsAntisymmetric (trip_tuple c.in-One.field-0))

pub returns-in-Many : goal.returns-in-Many
returns-in-Many c =
    let v = c.args.self in
    let t = v.all.tables.now in
    let there : IsSome (row_of t 3 c.in-Many.held) = subst (IsRootThere t) c.in-Many.is (root_known t v.all.dict.now v.root.now v.known) in
    let node : IfSome (row_of t 3 c.in-Many.held) (λ r. r.node ≡ c.node.result.now) = subst (λ q. IfSome (row_of t 3 q) (λ r. r.node ≡ c.node.result.now)) c.row.ensures c.node.ensures in
    c.size.ensures ∙ size_there t v.all.dict.now v.all.known c.in-Many.held c.node.result.now there node ∙ sym (ap (λ r. set.len (root_set t r)) c.in-Many.is)
