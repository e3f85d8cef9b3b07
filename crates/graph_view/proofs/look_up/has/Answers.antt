use Rattle.std.proofs.Common.{◌≡◌, ◌∙◌, ◌∷◌, [], IfSome, is_some, refl, sym, ap, subst, arith}
use Rattle.std.specs.Ordering.{nat_cmp}
use Rattle.std.specs.Cmp.Lexicographic.{slice_cmp}
use Rattle.std.specs.FinSet as set
use Rattle.hypertrie_model.specs.Sets.{has, HasDepth}
use Rattle.trie_depth.specs.Tuples.{trip_tuple}
use Rattle.trie_view.specs.declared.sub.Sub.{Sub}
use Rattle.trie_view.specs.Subs.{sub_depth, sub_set}
use Rattle.trie_view.specs.PlaceLaws.{known_deep}
use Rattle.graph_view.specs.Read.{set_in}
use Rattle.graph_view.proofs.FoundLemmas.{has_behind, not_behind, last_behind}
use Rattle.graph_view.proofs.look_up.has.Goals as goal

deep : (s : Sub) → HasDepth (sub_depth s) (sub_set s)
deep s = known_deep s.tables.now s.place s.known

pub returns-in_default : goal.returns-in_default
returns-in_default g c = sym (ap (λ o. has (set_in sub_set o) (trip_tuple c.args.trip)) c.in_default.is ∙ set.contains-empty (slice_cmp nat_cmp) (trip_tuple c.args.trip))

pub returns-in_default-fix : goal.returns-in_default-fix
returns-in_default-fix g c =
    let H = c.in-Some.triples in
    let t = c.args.trip in
    let is_three : sub_depth H ≡ 3 = subst (λ o. IfSome o (λ s. sub_depth s ≡ 3)) c.in-Some.is c.requires.deep in
    let three : HasDepth 3 (sub_set H) = subst (λ d. HasDepth d (sub_set H)) is_three (deep H) in
    sym (ap (λ o. has (set_in sub_set o) (trip_tuple t)) c.in-Some.is ∙ not_behind 2 (sub_set H) three t.0.0 (t.1.0 ∷ t.2.0 ∷ []) (c.in_default-fix.ensures.none.0 refl))

pub returns-in_default-fix-2 : goal.returns-in_default-fix-2
returns-in_default-fix-2 g c =
    let H = c.in-Some.triples in
    let P = c.in-Some-fix.pairs in
    let t = c.args.trip in
    let is_three : sub_depth H ≡ 3 = subst (λ o. IfSome o (λ s. sub_depth s ≡ 3)) c.in-Some.is c.requires.deep in
    let three : HasDepth 3 (sub_set H) = subst (λ d. HasDepth d (sub_set H)) is_three (deep H) in
    let is_two : sub_depth P ≡ 2 = omega (arith, is_three, c.in-Some-fix.ensures.depth) in
    let two : HasDepth 2 (sub_set P) = subst (λ d. HasDepth d (sub_set P)) is_two (deep P) in
    sym (ap (λ o. has (set_in sub_set o) (trip_tuple t)) c.in-Some.is ∙ sym (has_behind 2 (sub_set H) three t.0.0 (t.1.0 ∷ t.2.0 ∷ []))
    ∙ ap (λ S. has S (t.1.0 ∷ t.2.0 ∷ [])) (sym c.in-Some-fix.ensures.some)
    ∙ not_behind 1 (sub_set P) two t.1.0 (t.2.0 ∷ []) (c.in_default-fix-2.ensures.none.0 refl))

pub returns : goal.returns
returns g c =
    let H = c.in-Some.triples in
    let P = c.in-Some-fix.pairs in
    let K = c.in-Some-fix-2.keys in
    let t = c.args.trip in
    let is_three : sub_depth H ≡ 3 = subst (λ o. IfSome o (λ s. sub_depth s ≡ 3)) c.in-Some.is c.requires.deep in
    let three : HasDepth 3 (sub_set H) = subst (λ d. HasDepth d (sub_set H)) is_three (deep H) in
    let is_two : sub_depth P ≡ 2 = omega (arith, is_three, c.in-Some-fix.ensures.depth) in
    let two : HasDepth 2 (sub_set P) = subst (λ d. HasDepth d (sub_set P)) is_two (deep P) in
    let is_one : sub_depth K ≡ 1 = omega (arith, is_two, c.in-Some-fix-2.ensures.depth) in
    let one : HasDepth 1 (sub_set K) = subst (λ d. HasDepth d (sub_set K)) is_one (deep K) in
    c.is_some.ensures ∙ last_behind (sub_set K) one t.2.0 (is_some c.fix-3.result) c.fix-3.ensures.none
    ∙ sym (ap (λ o. has (set_in sub_set o) (trip_tuple t)) c.in-Some.is ∙ sym (has_behind 2 (sub_set H) three t.0.0 (t.1.0 ∷ t.2.0 ∷ []))
    ∙ ap (λ S. has S (t.1.0 ∷ t.2.0 ∷ [])) (sym c.in-Some-fix.ensures.some)
    ∙ sym (has_behind 1 (sub_set P) two t.1.0 (t.2.0 ∷ []))
    ∙ ap (λ S. has S (t.2.0 ∷ [])) (sym c.in-Some-fix-2.ensures.some))
