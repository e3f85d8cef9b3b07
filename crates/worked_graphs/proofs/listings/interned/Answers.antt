use Rattle.std.proofs.Common.{◌≤◌, ◌+◌, ◌∙◌, ap, arith}
use Rattle.std.specs.FinMap as map
use Rattle.std.specs.Ordering.{nat_cmp}
use Rattle.rdf_model.specs.Terms.{Term}
use Rattle.worked_graphs.proofs.TriedLemmas.{few, known_two}
use Rattle.worked_graphs.proofs.listings.interned.Goals as goal

pub intern-requires : goal.intern-requires
intern-requires c =
    let none = ap map.len c.new-dict.ensures ∙ map.len-empty nat_cmp Term in
    omega (arith, none)

pub intern-requires-2 : goal.intern-requires-2
intern-requires-2 c =
    let none = ap map.len c.new-dict.ensures ∙ map.len-empty nat_cmp Term in
    let more : map.len c.intern.new.self ≤ map.len c.new-dict.result + 1 = few c.new-dict.result c.intern.new.self _ c.in_ok-subject.subject.0 c.in_ok-subject.ensures.interned in
    omega (arith, none, more)

pub returns : goal.returns
returns c = known_two c.new-dict.result c.intern.new.self c.intern-2.new.self _ _ c.in_ok-subject.subject c.in_ok-predicate.predicate c.in_ok-subject.ensures.interned c.in_ok-predicate.ensures.interned
