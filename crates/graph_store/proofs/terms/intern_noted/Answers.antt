use Rattle.std.proofs.Common.{◌<◌, ◌≤◌, IsSome, refl, sym, subst, ◌∙◌, inl, arith}
use Rattle.std.specs.FinMap as map
use Rattle.rdf_term.specs.Seen.{lent_term}
use Rattle.graph_image.specs.DictLaws.{interns_at}
use Rattle.graph_store.proofs.NotedLemmas.{undone, not_new}
use Rattle.graph_store.proofs.terms.intern_noted.Goals as goal

pub remove-requires : goal.remove-requires
remove-requires c = subst IsSome (sym (interns_at c.args.dict.now c.intern.new.self (lent_term c.args.term) c.in_ok-id.id.0 c.in_ok-id.ensures.interned)) refl

pub returns-in-Err-clause-dict : goal.returns-in-Err-clause-dict
returns-in-Err-clause-dict c =
    let more : map.len c.args.dict.now < map.len c.intern.new.self = omega (arith, c.len-before.ensures.value, c.len.ensures.value, c.if-len-before.true) in
    c.remove.ensures ∙ undone c.args.dict.now c.intern.new.self (lent_term c.args.term) c.in_ok-id.id.0 c.in_ok-id.ensures.interned more

pub returns-else-len-before-clause-ok : goal.returns-else-len-before-clause-ok
returns-else-len-before-clause-ok c =
    let le : map.len c.intern.new.self ≤ map.len c.args.dict.now = omega (arith, c.len-before.ensures.value, c.len.ensures.value, c.if-len-before.false) in
    let same = not_new c.args.dict.now c.intern.new.self (lent_term c.args.term) c.in_ok-id.id.0 c.in_ok-id.ensures.interned le in
    inl (same.0, same.1, refl)
