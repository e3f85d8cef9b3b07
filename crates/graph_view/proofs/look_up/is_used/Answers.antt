use Rattle.std.proofs.Common.{◌≡◌, ◌∙◌, true, false, IfSome, refl, sym, ap, subst, arith}
use Rattle.std.specs.Ordering.{nat_cmp}
use Rattle.std.specs.Cmp.Lexicographic.{slice_cmp}
use Rattle.std.specs.FinSet as set
use Rattle.hypertrie_model.specs.Sets.{has, HasDepth}
use Rattle.trie_view.specs.declared.sub.Sub.{Sub}
use Rattle.trie_view.specs.Subs.{sub_depth, sub_set}
use Rattle.trie_view.specs.PlaceLaws.{known_deep}
use Rattle.graph_image.specs.Images.{IsUsed}
use Rattle.graph_view.specs.Read.{set_in}
use Rattle.graph_view.proofs.FoundLemmas.{used_at, used_nowhere}
use Rattle.graph_view.proofs.look_up.is_used.Goals as goal

three : (s : Sub) → sub_depth s ≡ 3 → HasDepth 3 (sub_set s)
three s depth = subst (λ d. HasDepth d (sub_set s)) depth (known_deep s.tables.now s.place s.known)

pub returns-in_default : goal.returns-in_default
returns-in_default g c = (
  λ f. absurd (let h : false ≡ true = f in let k : ⊥ = cc in k),
  λ used. absurd (
      let e : true ≡ false = sym used.there ∙ ap (λ o. has (set_in sub_set o) used.tuple) c.in_default.is ∙ set.contains-empty (slice_cmp nat_cmp) used.tuple in
      let k : ⊥ = cc in k),
)

pub returns-then-is_some : goal.returns-then-is_some
returns-then-is_some g c =
    let is_three : sub_depth c.in-Some.triples ≡ 3 = subst (λ o. IfSome o (λ s. sub_depth s ≡ 3)) c.in-Some.is c.requires.deep in (
      λ _. subst (λ o. IsUsed (set_in sub_set o) c.args.id.0) (sym c.in-Some.is) (used_at (sub_set c.in-Some.triples) (three c.in-Some.triples is_three) c.args.id.0 1 (omega arith, omega arith)
          (λ none. let e : true ≡ false = sym c.if-is_some.true ∙ c.is_some.ensures ∙ c.fix.ensures.none.1 none in cc)),
      λ _. refl,
    )

pub returns-then-is_some-2 : goal.returns-then-is_some-2
returns-then-is_some-2 g c =
    let is_three : sub_depth c.in-Some.triples ≡ 3 = subst (λ o. IfSome o (λ s. sub_depth s ≡ 3)) c.in-Some.is c.requires.deep in (
      λ _. subst (λ o. IsUsed (set_in sub_set o) c.args.id.0) (sym c.in-Some.is) (used_at (sub_set c.in-Some.triples) (three c.in-Some.triples is_three) c.args.id.0 2 (omega arith, omega arith)
          (λ none. let e : true ≡ false = sym c.if-is_some-2.true ∙ c.is_some-2.ensures ∙ c.fix-2.ensures.none.1 none in cc)),
      λ _. refl,
    )

pub returns : goal.returns
returns g c =
    let is_three : sub_depth c.in-Some.triples ≡ 3 = subst (λ o. IfSome o (λ s. sub_depth s ≡ 3)) c.in-Some.is c.requires.deep in (
      λ found. subst (λ o. IsUsed (set_in sub_set o) c.args.id.0) (sym c.in-Some.is) (used_at (sub_set c.in-Some.triples) (three c.in-Some.triples is_three) c.args.id.0 4 (omega arith, omega arith)
          (λ none. let e : true ≡ false = sym found ∙ c.is_some-3.ensures ∙ c.fix-3.ensures.none.1 none in cc)),
      λ used.
          elim c.is_some-3.result as (λ b. c.is_some-3.result ≡ b → b ≡ true) [
            | true ↦ λ _. refl
            | false ↦ λ last. absurd (used_nowhere (sub_set c.in-Some.triples) (three c.in-Some.triples is_three) c.args.id.0
                (c.fix.ensures.none.0 (sym c.is_some.ensures ∙ c.if-is_some.false))
                (c.fix-2.ensures.none.0 (sym c.is_some-2.ensures ∙ c.if-is_some-2.false))
                (c.fix-3.ensures.none.0 (sym c.is_some-3.ensures ∙ last))
                (subst (λ o. IsUsed (set_in sub_set o) c.args.id.0) c.in-Some.is used))
          ] refl,
    )
