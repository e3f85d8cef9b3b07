use Rattle.std.proofs.Common.{IsSome, sym, subst, ap, ◌∙◌, get_or}
use Rattle.std.proofs.lemmas.List.{take_all}
use Rattle.std.specs.FinMap as map
use Rattle.trie_depth.specs.declared.id.Id.{Id}
use Rattle.graph_image.specs.Images.{without}
use Rattle.graph_image.specs.DictLaws.{without-none}
use Rattle.graph_store.specs.Staging.{numbers}
use Rattle.graph_store.proofs.NotedLemmas.{still_there, next_gone}
use Rattle.graph_store.proofs.terms.remove_all.Goals as goal

pub loop-id-init : goal.loop-id-init
loop-id-init c = sym (without-none c.args.dict.now)

pub remove-requires : goal.remove-requires
remove-requires c =
    let none : Id = record { 0 = 0 } in
    subst (λ m. IsSome (map.get m (get_or c.args.ids.now c.loop-id.id-index none).0)) (sym c.loop-id.invariant)
    (still_there c.args.dict.now c.args.ids.now c.requires.there c.requires.once c.loop-id.id-index none c.loop-id-test.true)

pub loop-id-preserved : goal.loop-id-preserved
loop-id-preserved c =
    let none : Id = record { 0 = 0 } in
    c.remove.ensures
    ∙ ap (λ m. map.remove m (get_or c.args.ids.now c.loop-id.id-index none).0) c.loop-id.invariant
    ∙ next_gone c.args.dict.now c.args.ids.now c.requires.there c.requires.once c.loop-id.id-index none c.loop-id-test.true

pub returns : goal.returns
returns c = c.loop-id.invariant ∙ ap (λ l. without c.args.dict.now (numbers l)) (take_all c.loop-id.id-index c.args.ids.now c.loop-id-test.false)
