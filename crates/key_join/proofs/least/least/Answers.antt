use Rattle.std.proofs.Common.{◌≡◌, ◌+◌, suc, true, [], ◌∷◌, ◌++◌, take, get_or, sym, ◌∙◌, ap, subst, arith}
use Rattle.std.proofs.Math.Seq.{take-suc}
use Rattle.std.proofs.lemmas.List.{take_all}
use Rattle.std.specs.List.{list_any}
use Rattle.trie_depth.specs.declared.id.Trip.{Trip}
use Rattle.trie_depth.specs.Operands.{Admits}
use Rattle.key_join.specs.Least.{IsLeastFrom}
use Rattle.key_join.specs.Lists.{places_of, put, agrees, set_of, triples}
use Rattle.key_join.specs.ListLaws.{admitted, listed, triples-long}
use Rattle.key_join.proofs.LeastLemmas.{least-more, least-none, least-there, least-least}
use Rattle.key_join.proofs.least.least.Goals as goal
use Rattle.key_join.proofs.least.least.Goals.{After-loop-triple}

pub loop-triple-preserved : goal.loop-triple-preserved
loop-triple-preserved c =
    let es = c.args.list.now in
    let i = c.loop-triple.triple-index in
    let here : Trip = get_or es i (record { 0 = record { 0 = 0 }; 1 = record { 0 = 0 }; 2 = record { 0 = 0 } }) in
    let ps = places_of c.args.fixed in
    let more = least-more c.args.from c.args.mask.0 ps (take i es) here c.key_of.result c.loop-triple.best c.key_of.ensures.some c.key_of.ensures.only c.loop-triple.invariant in
    let next : take (i + 1) es ≡ take i es ++ here ∷ [] = ap (λ n. take n es) (let e : i + 1 ≡ suc i = omega arith in e) ∙ take-suc es i _ c.loop-triple-test.true in
    subst (λ ts. IsLeastFrom c.args.from (λ k. list_any (agrees (put c.args.mask.0 k ps)) (triples ts) ≡ true) c.lesser_from-best.result) (sym next)
    (subst (IsLeastFrom c.args.from (λ k. list_any (agrees (put c.args.mask.0 k ps)) (triples (take i es ++ here ∷ [])) ≡ true)) (sym c.lesser_from-best.ensures) more)

-- the key is the least of the whole list, when all of it is read
whole : (c : After-loop-triple) → IsLeastFrom c.args.from (λ k. list_any (agrees (put c.args.mask.0 k (places_of c.args.fixed))) (triples c.args.list.now) ≡ true) c.loop-triple.best
whole c = subst (λ es. IsLeastFrom c.args.from (λ k. list_any (agrees (put c.args.mask.0 k (places_of c.args.fixed))) (triples es) ≡ true) c.loop-triple.best) (take_all c.loop-triple.triple-index c.args.list.now c.loop-triple-test.false) c.loop-triple.invariant

pub returns-clause-none : goal.returns-clause-none
returns-clause-none c = least-none c.args.from _ (λ k. Admits (set_of (triples c.args.list.now) (places_of c.args.fixed)) c.args.mask.0 k) c.loop-triple.best (whole c)
    (λ k. listed (triples c.args.list.now) (places_of c.args.fixed) c.args.mask.0 k (triples-long c.args.list.now))

pub returns-clause-there : goal.returns-clause-there
returns-clause-there c = least-there c.args.from _ (λ k. Admits (set_of (triples c.args.list.now) (places_of c.args.fixed)) c.args.mask.0 k) c.loop-triple.best (whole c)
    (λ k. admitted (triples c.args.list.now) (places_of c.args.fixed) c.args.mask.0 k (triples-long c.args.list.now))

pub returns-clause-least : goal.returns-clause-least
returns-clause-least c = least-least c.args.from _ (λ k. Admits (set_of (triples c.args.list.now) (places_of c.args.fixed)) c.args.mask.0 k) c.loop-triple.best (whole c)
    (λ k. listed (triples c.args.list.now) (places_of c.args.fixed) c.args.mask.0 k (triples-long c.args.list.now))
