use Rattle.std.proofs.Common.{◌≡◌, ◌∙◌, true, false, IsSome, sym, subst, take, get_or, ◌++◌, ◌∷◌, []}
use Rattle.std.proofs.lemmas.List.{take_all}
use Rattle.trie_depth.specs.declared.id.Id.{Id}
use Rattle.trie_view.specs.Subs.{sub_set}
use Rattle.graph_image.specs.Images.{IsUsed}
use Rattle.graph_view.specs.Read.{set_in}
use Rattle.graph_store.specs.Staging.{numbers}
use Rattle.graph_store.specs.Forgotten.{Forgets}
use Rattle.graph_store.proofs.NotedLemmas.{here, new_to_before, numbers_next}
use Rattle.graph_store.proofs.ForgetLemmas.{forgets_none, forgets_kept, forgets_gone}
use Rattle.graph_store.proofs.taken.forget.Goals as goal
use Rattle.graph_store.proofs.taken.forget.Goals.{then-not-is_used, else-not-is_used}

pub loop-id-init : goal.loop-id-init
loop-id-init c = forgets_none c.args.dict.now (IsUsed (set_in sub_set c.args.left))

pub remove-requires : goal.remove-requires
remove-requires c =
    let none : Id = record { 0 = 0 } in
    let ids = c.args.ids.now in
    let n = c.loop-id.id-index in
    let new = new_to_before c.args.dict.now ids c.requires.there c.requires.once n none c.loop-id-test.true in
    subst IsSome (sym (c.loop-id.invariant.unlisted (get_or ids n none).0 new)) (here c.args.dict.now ids c.requires.there c.requires.once n none c.loop-id-test.true)

pub loop-id-preserved : goal.loop-id-preserved
loop-id-preserved c =
    let none : Id = record { 0 = 0 } in
    let ids = c.args.ids.now in
    let n = c.loop-id.id-index in
    let Used = IsUsed (set_in sub_set c.args.left) in
    let id = (get_or ids n none).0 in
    let next = numbers_next c.args.dict.now ids c.requires.there c.requires.once n none c.loop-id-test.true in
    elim c.if-not-is_used.branch [
      | then-not-is_used w ↦
          subst (λ l. Forgets c.args.dict.now c.if-not-is_used.dict l Used) next
          (subst (λ m. Forgets c.args.dict.now m (numbers (take n ids) ++ id ∷ []) Used) (sym (w.dict-is ∙ w.remove.ensures))
          (forgets_gone c.args.dict.now Used c.loop-id.dict (numbers (take n ids)) id c.loop-id.invariant (λ used. let f : true ≡ false = sym (c.is_used.ensures.1 used) ∙ w.if-not-is_used.true in cc)))
      | else-not-is_used w ↦
          subst (λ l. Forgets c.args.dict.now c.if-not-is_used.dict l Used) next
          (subst (λ m. Forgets c.args.dict.now m (numbers (take n ids) ++ id ∷ []) Used) (sym w.dict-is)
          (forgets_kept c.args.dict.now Used c.loop-id.dict (numbers (take n ids)) id c.loop-id.invariant (c.is_used.ensures.0 w.if-not-is_used.false)))
    ]

pub returns : goal.returns
returns c = subst (λ l. Forgets c.args.dict.now c.loop-id.dict (numbers l) (IsUsed (set_in sub_set c.args.left))) (take_all c.loop-id.id-index c.args.ids.now c.loop-id-test.false) c.loop-id.invariant
